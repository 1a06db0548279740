-- What contracts of public items name.
pub mod Had
pub mod Keys
pub mod Outlines
pub mod Reading
pub mod Walks
pub mod Taking
pub mod Rows
pub mod Sets
pub mod Answered
pub mod Lists
pub mod Abreast
pub mod Ends
pub mod Parts
pub mod Listings
pub mod Ascending
-- What only contracts of private functions and proofs name.
pub mod Kept
pub mod Steps
pub mod Segments
