pub mod CardFile
pub mod Places
pub mod Versions
pub mod Kept
pub mod Faults
pub mod Opening
pub mod Laws
