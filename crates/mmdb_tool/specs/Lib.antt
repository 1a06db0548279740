-- What has to be believed: what contracts of public items name.
pub mod Sink
pub mod Out
pub mod Putting
pub mod PutErrors
pub mod Lines
pub mod ListText
-- What only contracts of private functions and proofs name.
pub mod Working
