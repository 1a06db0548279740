-- What has to be believed: what contracts name.
pub mod Gathered
pub mod Written
pub mod Listed
