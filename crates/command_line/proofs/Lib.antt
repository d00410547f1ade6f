pub mod BuiltinWords
pub mod CommandLines
pub mod Cores
pub mod Found
pub mod Jobs
pub mod Rows
pub mod Usage
pub mod Walks
