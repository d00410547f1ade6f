-- What only private contracts and proofs cite.
pub mod Booking
pub mod Dones
pub mod Following
pub mod Naming
pub mod SameJobs
pub mod Seeding
