-- What public contracts cite, and what that rests on.
pub mod Contents
pub mod Ends
pub mod Errors
pub mod Folders
pub mod Leases
pub mod MadeTrees
pub mod Making
pub mod Options
pub mod Progress
pub mod Setups
pub mod Traces
pub mod Walks
pub mod private
