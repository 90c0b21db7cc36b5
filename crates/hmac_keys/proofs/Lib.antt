pub mod BlockKeys
pub mod Evidence
