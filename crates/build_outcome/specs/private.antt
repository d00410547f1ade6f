-- What only private contracts and proofs cite.
pub mod Hearing
pub mod HearingLaws
pub mod Judging
pub mod Linking
pub mod Listing
pub mod Reaching
pub mod Reading
pub mod RootPaths
pub mod Sinks
pub mod Sizing
pub mod Summing
pub mod Testing
pub mod Walking
