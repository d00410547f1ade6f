-- What public contracts cite, and what that rests on.
pub mod Adding
pub mod BadLines
pub mod Closure
pub mod Entries
pub mod Equality
pub mod Faults
pub mod LineFaults
pub mod Outlets
pub mod PathInfos
pub mod Reading
pub mod ReadingLaws
pub mod Tables
pub mod Texts
pub mod Unions
pub mod Valid
pub mod Written
pub mod private
