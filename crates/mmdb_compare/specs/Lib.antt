-- What has to be believed: what contracts of public items name.
pub mod Coming
pub mod Listed
pub mod Parts
pub mod Together
pub mod Found
pub mod Agreeing
pub mod Same
pub mod Kept
pub mod Sides
-- What only contracts of private functions and proofs name.
pub mod Walks
pub mod WalkList
pub mod SideBySide
