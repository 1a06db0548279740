-- What only contracts of private functions and proofs name.
pub mod Seen
pub mod Shown
pub mod Showing
pub mod Alike
pub mod Lines
pub mod Walked
pub mod Comparing
pub mod Counts
