pub mod Entries
pub mod Numbering
pub mod RunLemmas
pub mod Searches
