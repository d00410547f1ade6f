-- What only private contracts and proofs cite.
pub mod Ending
pub mod JobVerdicts
pub mod Looking
pub mod Sharing
