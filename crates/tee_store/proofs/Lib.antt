pub mod Callers
pub mod WordCounts
