-- What has to be believed: what contracts of public items name.
pub mod Checking
pub mod Inline
pub mod Values
pub mod Memory
pub mod Halting
pub mod Laws
-- What only contracts of private functions and proofs name.
pub mod Working
