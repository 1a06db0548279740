-- What contracts of public items name.
pub mod Met
pub mod Decided
pub mod Labels
pub mod Columns
pub mod Kept
pub mod Fitting
-- What only contracts of private functions and proofs name.
pub mod Puts
