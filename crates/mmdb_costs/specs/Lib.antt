-- What has to be believed: what contracts of public items name.
pub mod Readable
-- What only contracts of private functions and proofs name.
pub mod Working
