-- What public contracts cite, and what that rests on.
pub mod Answers
pub mod Prefixes
pub mod Faults
pub mod SharedClosures
pub mod Shown
pub mod private
