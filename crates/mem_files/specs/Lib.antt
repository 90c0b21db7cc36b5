pub mod Held
pub mod Contents
pub mod Taints
pub mod Crash
pub mod CrashLaws
pub mod Machine
pub mod Memory
pub mod Choices
