-- What has to be believed: what contracts of public items name.
pub mod Records
pub mod FieldShapes
pub mod Tables
pub mod TableReads
pub mod Memos
pub mod Limits
pub mod Shapes
pub mod TypedReads
pub mod OneStands
