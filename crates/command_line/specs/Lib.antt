-- What public contracts cite, and what that rests on.
pub mod Builtins
pub mod CommandLine
pub mod Profiles
pub mod Requests
pub mod Usage
pub mod private
