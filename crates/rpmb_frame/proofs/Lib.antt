pub mod RoundTrips
pub mod Seals
