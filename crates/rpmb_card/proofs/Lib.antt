pub mod Blank
pub mod Comparison
pub mod Hearing
