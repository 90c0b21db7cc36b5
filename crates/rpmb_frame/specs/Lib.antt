pub mod Layout
pub mod Authentication
