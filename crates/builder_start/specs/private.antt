-- What only private contracts and proofs cite.
pub mod Files
pub mod Shown
pub mod Starts
