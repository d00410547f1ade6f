-- What only private contracts and proofs cite.
pub mod Asking
pub mod CheckGroups
pub mod Inputs
pub mod Leases
pub mod PathReads
pub mod Printing
pub mod Restoring
pub mod Verified
pub mod Waiting
