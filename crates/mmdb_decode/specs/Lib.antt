-- What has to be believed: what contracts of public items name.
pub mod Reading
pub mod State
pub mod Errors
pub mod Scalars
pub mod SmallNumbers
pub mod Peeking
pub mod Arrays
pub mod Maps
pub mod Names
pub mod Skipping
pub mod Selecting
pub mod Levels
pub mod Repeats
pub mod ScalarReads
-- What only contracts of private functions and proofs name.
pub mod Working
