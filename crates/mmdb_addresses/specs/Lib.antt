-- What has to be believed: what contracts of public items name.
pub mod Addresses
pub mod Bytes
pub mod Cells
pub mod Rows
pub mod Words
pub mod Spelling
-- What only contracts of private functions and proofs name.
pub mod Kinds
pub mod Last
pub mod Octets
pub mod Openings
