-- What public contracts cite, and what that rests on.
pub mod Attributes
pub mod Checks
pub mod Heard
pub mod Hearing
pub mod Jobs
pub mod Numbers
pub mod Sinks
pub mod Sums
pub mod Tokens
pub mod Verdicts
pub mod private
