-- What public contracts cite, and what that rests on.
pub mod Checked
pub mod Derivation
pub mod Equality
pub mod Grammar
pub mod Laws
pub mod ListedFiles
pub mod Order
pub mod Outcome
pub mod OwnPath
pub mod Parts
pub mod Indices
pub mod References
pub mod Sources
pub mod Strings
pub mod private
