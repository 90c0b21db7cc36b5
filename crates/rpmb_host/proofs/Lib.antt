pub mod Widths
pub mod HonestReads
pub mod HonestWrites
pub mod HonestCalls
pub mod Counting
pub mod CardsBefore
