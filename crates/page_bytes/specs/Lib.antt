pub mod Pages
pub mod Ranges
pub mod Rewriting
pub mod Changed
