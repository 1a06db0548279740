-- What has to be believed: what contracts of public items name.
pub mod Columns
pub mod Cells
pub mod Asked
pub mod Layers
pub mod Networks
pub mod Answered
pub mod Objects
pub mod Fields
pub mod Records
pub mod Template
pub mod Added
pub mod Wanted
pub mod KeptCells
pub mod Kept
pub mod Longer
pub mod Ahead
pub mod Remembers
pub mod Stretches
pub mod Tasks
pub mod Header
pub mod Mark
pub mod Copied
-- What only contracts of private functions and proofs name.
pub mod Same
pub mod Working
