pub mod Folders
pub mod Copies
pub mod Exports
