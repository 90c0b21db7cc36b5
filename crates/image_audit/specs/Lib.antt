pub mod Certificate
pub mod Checking
pub mod Contents
pub mod Auditing
pub mod Audited
pub mod Accepted
