pub mod Blocks
pub mod Standing
pub mod Acting
pub mod Moments
pub mod WhatIsRead
pub mod AfterCuts
