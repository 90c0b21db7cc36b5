pub mod Finding
pub mod SlabEntries
