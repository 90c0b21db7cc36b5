pub mod Layout
pub mod Form
