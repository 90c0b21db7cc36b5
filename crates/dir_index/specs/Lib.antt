pub mod Index
pub mod Above
pub mod Search
pub mod EntryNames
