pub mod EqualBytes
pub mod Fields
