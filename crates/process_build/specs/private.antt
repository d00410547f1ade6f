-- What only private contracts and proofs cite.
pub mod Answers
pub mod BuilderCalls
pub mod Canonical
pub mod Folders
pub mod HeardOutputs
pub mod MakingLaws
pub mod Placeholders
pub mod Preparations
pub mod RawVars
pub mod Walking
