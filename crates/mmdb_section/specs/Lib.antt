-- What has to be believed: what contracts of public items name.
pub mod Encoding
pub mod Shapes
pub mod Sections
pub mod Known
pub mod Laws
pub mod Moved
-- The bytes of values, by which equal ones are found.
pub mod Bytes
-- What only contracts of private functions and proofs name.
pub mod Working
pub mod MovedWorking
