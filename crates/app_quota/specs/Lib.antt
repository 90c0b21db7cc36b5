pub mod Quotas
pub mod Parts
pub mod Limits
pub mod Commitments
pub mod Isolation
pub mod Laws
