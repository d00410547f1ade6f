-- What only private contracts and proofs cite.
pub mod AfterBytes
pub mod Listings
pub mod Ordering
pub mod Passing
pub mod Reading
pub mod ParseFaults
