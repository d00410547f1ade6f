-- What only private contracts and proofs cite.
pub mod HearingLaws
pub mod Kept
pub mod Marks
pub mod Parts
pub mod Room
pub mod Scanned
pub mod Telling
pub mod Walk
