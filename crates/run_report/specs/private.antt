-- What only private contracts and proofs cite.
pub mod Holding
pub mod Marks
