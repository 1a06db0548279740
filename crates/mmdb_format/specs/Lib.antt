-- What has to be believed: what contracts of public items name.
pub mod Header
pub mod Pointer
pub mod Kinds
pub mod Message
pub mod Error
pub mod Faults
pub mod Contents
pub mod Views
pub mod Unfolding
pub mod Equality
-- What only contracts of private functions and proofs name.
pub mod Working
