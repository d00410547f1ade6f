-- What only private contracts and proofs cite.
pub mod Feeding
pub mod Refusals
pub mod ShownTables
