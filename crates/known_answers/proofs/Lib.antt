pub mod Serving
pub mod Pages
pub mod Commas
pub mod DataBlocks
pub mod Shapes
pub mod Forms
