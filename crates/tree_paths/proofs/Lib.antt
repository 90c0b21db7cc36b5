pub mod Halving
pub mod StagedNodes
