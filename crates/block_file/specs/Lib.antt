pub mod Reads
pub mod Parts
pub mod NewPages
pub mod Stages
