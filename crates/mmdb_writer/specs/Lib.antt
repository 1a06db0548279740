-- What has to be believed: what contracts of public items name.
pub mod Limits
pub mod Rows
pub mod Errors
pub mod Written
-- What a file in the making has, of which only what is written in the end has to be believed.
pub mod Making
-- What only contracts of private functions and proofs name.
pub mod Working
pub mod Layout
