pub mod Paths
pub mod Staged
