-- What has to be believed: what contracts of public items name.
pub mod Tree
pub mod Descents
pub mod Table
pub mod Nodes
pub mod Records
pub mod Groups
pub mod Stops
pub mod Walked
-- What only contracts of private functions and proofs name.
pub mod Working
