pub mod Polynomial
pub mod Field
pub mod Ghash
pub mod Holes
pub mod Steps
pub mod Words
pub mod Hasher
