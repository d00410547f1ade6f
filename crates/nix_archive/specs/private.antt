-- What only private contracts and proofs cite.
pub mod Ready
pub mod SumLaws
pub mod Takes
