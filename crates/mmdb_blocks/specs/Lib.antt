-- What has to be believed: what contracts of public items name.
pub mod Blocks
pub mod Joining
pub mod Networks
pub mod Kinds
pub mod Ranges
pub mod Deltas
pub mod Texts
pub mod Lists
pub mod ListTexts
-- What only contracts of private functions and proofs name.
pub mod Working
