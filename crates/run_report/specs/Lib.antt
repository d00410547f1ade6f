-- What public contracts cite, and what that rests on.
pub mod Forecasts
pub mod Listing
pub mod NamedPaths
pub mod Pictures
pub mod Reports
pub mod Truths
pub mod Words
pub mod private
