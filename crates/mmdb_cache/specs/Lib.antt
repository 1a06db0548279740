-- What has to be believed: what contracts of public items name.
pub mod Cache
pub mod Table
