pub mod RoundTrips
pub mod Matching
pub mod PartPlaces
pub mod ImageBytes
