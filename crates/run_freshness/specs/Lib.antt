pub mod Seen
pub mod Shown
pub mod Laws
pub mod Taken
pub mod Course
pub mod Runs
