-- What only private contracts and proofs cite.
pub mod Blames
pub mod Checking
pub mod Closing
pub mod Entering
pub mod FirstRows
pub mod RecordContents
pub mod Keys
pub mod LineTexts
pub mod Linking
pub mod Marking
pub mod Merging
pub mod Readers
pub mod Steps
