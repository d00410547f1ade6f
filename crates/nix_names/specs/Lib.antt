-- What public contracts cite, and what that rests on.
pub mod Answers
pub mod Base32
pub mod Bytes
pub mod Digests
pub mod Faults
pub mod Firsts
pub mod Keys
pub mod Methods
pub mod Names
pub mod Rising
pub mod StorePaths
