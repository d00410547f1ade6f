-- What public contracts cite, and what that rests on.
pub mod Addresses
pub mod Asked
pub mod Entries
pub mod Graphs
pub mod Preparing
pub mod Structured
pub mod private
