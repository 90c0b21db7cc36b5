pub mod Table
pub mod HandleChanges
