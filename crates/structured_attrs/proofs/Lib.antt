pub mod Depths
pub mod Examples
pub mod Gathered
pub mod Nesting
pub mod Numbers
pub mod ReadBack
pub mod ReadSteps
