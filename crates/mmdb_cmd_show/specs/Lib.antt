-- What contracts of this crate name.
pub mod Asked
pub mod Answers
pub mod Printed
