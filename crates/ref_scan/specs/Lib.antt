-- What public contracts cite, and what that rests on.
pub mod ArchivedTrees
pub mod Archives
pub mod Counting
pub mod Faults
pub mod Feed
pub mod Hearing
pub mod Links
pub mod Scan
pub mod Trees
pub mod private
