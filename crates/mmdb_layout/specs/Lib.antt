-- What has to be believed: what contracts of public items name.
pub mod Reading
pub mod Asked
pub mod Texts
pub mod Conditions
pub mod Numbers
pub mod Networks
-- What only contracts of private functions and proofs name.
pub mod Working
pub mod Digits
