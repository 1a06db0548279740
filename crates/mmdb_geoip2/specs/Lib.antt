-- What has to be believed: what contracts of public items name.
pub mod PlainRecords
pub mod NamesTable
pub mod CountryTables
pub mod CityTables
pub mod EnterpriseTables
pub mod NetworkTables
pub mod RecordTables
pub mod RecordShapes
-- What only contracts of private functions and proofs name.
pub mod Working
