pub mod ByteBlocks
pub mod ComputedTags
pub mod CounterMode
pub mod Gcm
