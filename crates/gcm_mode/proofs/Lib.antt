pub mod Writes
pub mod Stream
pub mod WholeBlocks
pub mod Chunks
pub mod Twice
pub mod Evidence
pub mod TagWidth
