-- What public contracts cite, and what that rests on.
pub mod Books
pub mod VerdictLaws
pub mod private
