-- What has to be believed: what contracts name.
pub mod Fit
