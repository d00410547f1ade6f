-- What public contracts cite, and what that rests on.
pub mod Attributes
pub mod Checks
pub mod FloatTexts
pub mod Graphs
pub mod JsonTexts
pub mod Numerals
pub mod Reading
pub mod Registrations
pub mod ShellTexts
pub mod Strings
pub mod private
