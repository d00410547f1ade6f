-- What only private contracts and proofs cite.
pub mod Checking
pub mod ExpectedPaths
pub mod FillSteps
pub mod Owners
pub mod Insertion
pub mod Uniting
pub mod UsedInputs
pub mod Walks
