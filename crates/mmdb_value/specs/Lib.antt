-- What has to be believed: what contracts of public items name.
pub use Rattle.mmdb_decode.specs.Reading
pub use Rattle.mmdb_decode.specs.State
pub use Rattle.mmdb_decode.specs.Errors
pub use Rattle.mmdb_decode.specs.Scalars
pub use Rattle.mmdb_decode.specs.SmallNumbers
pub use Rattle.mmdb_decode.specs.Peeking
pub use Rattle.mmdb_decode.specs.Arrays
pub use Rattle.mmdb_decode.specs.Maps
pub use Rattle.mmdb_decode.specs.Names
pub use Rattle.mmdb_record.specs.Records
pub use Rattle.mmdb_decode.specs.Skipping
pub use Rattle.mmdb_record.specs.Limits
pub mod AnyValue
pub mod Standing
pub mod Values
pub mod RawValues
