pub use Rattle.disk_model.specs.Faults
pub mod Streams
pub mod MemSource
pub mod MemSink
pub mod StdStreams
pub mod Files
pub mod Draws
