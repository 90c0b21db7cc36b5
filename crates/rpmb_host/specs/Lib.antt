pub mod Verdict
pub mod Requests
pub mod Calls
pub mod Honest
