-- What has to be believed: what contracts of public items name.
pub mod Counts
pub mod Reports
-- What only contracts of private functions and proofs name.
pub mod Working
