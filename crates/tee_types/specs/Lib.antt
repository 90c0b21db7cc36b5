pub mod Limits
pub mod Rights
pub mod Identifier
