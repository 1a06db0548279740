-- What has to be believed: what contracts of public items name.
pub mod Shown
pub mod Texts
pub mod RecordText
-- What only contracts of private functions and proofs name.
pub mod Working
pub mod Drafts
pub mod Appended
pub mod Kept
