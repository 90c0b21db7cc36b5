pub mod Totals
pub mod EntryTotals
pub mod Meant
pub mod OwnHandles
pub mod Laws
