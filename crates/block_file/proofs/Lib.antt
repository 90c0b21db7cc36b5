pub mod ChangeLists
pub mod Reading
pub mod NewPages
pub mod StageAfterReads
pub mod StageRewrites
pub mod StageBytes
pub mod Checks
