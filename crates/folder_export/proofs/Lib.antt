pub mod Causes
pub mod Copied
pub mod States
pub mod Below
