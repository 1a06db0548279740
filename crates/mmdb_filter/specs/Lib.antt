-- What has to be believed: what contracts of public items name.
pub mod Counting
pub mod Lines
pub mod Rows
pub mod Equality
pub mod Cells
pub mod Runs
-- What only contracts of private functions and proofs name.
pub mod Working
