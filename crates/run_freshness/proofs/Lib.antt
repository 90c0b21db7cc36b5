pub mod Sealed
pub mod Mounts
pub mod Shown
pub mod Lists
pub mod Taken
pub mod Course
pub mod Runs
