-- What public contracts cite, and what that rests on.
pub mod Archive
pub mod Laws
pub mod Parts
pub mod Reading
pub mod Rests
pub mod Sums
pub mod Texts
pub mod Tokens
pub mod Trees
pub mod private
