-- What public contracts cite, and what that rests on.
pub mod Builders
pub mod DiamondExample
pub mod GivenOutcomes
pub mod GraphExample
pub mod Interruptions
pub mod Keeping
pub mod Numbers
pub mod OneThread
pub mod Realising
pub mod RunJournals
pub mod SameOutcomes
pub mod ScheduleExample
pub mod Scheduling
pub mod Starts
pub mod TwinExample
pub mod Workers
pub mod private
