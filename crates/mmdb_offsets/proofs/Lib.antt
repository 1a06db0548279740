mod Words
pub mod Members
