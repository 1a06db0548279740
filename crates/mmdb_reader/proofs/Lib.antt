mod NumberedLemmas
pub mod LeafLemmas
mod ManyLemmas
pub mod LawLemmas
mod CountLemmas
mod Markers
pub mod Sources
mod NetworkLemmas
mod Clones
pub mod NumberLemmas
mod PositionLemmas
mod ShownLemmas
mod ListingSteps
mod StackLemmas
mod RangeLemmas
mod FewLemmas
mod ItemLemmas
mod EmptyLemmas
pub mod FindingLemmas
mod AliasLemmas
pub mod ListingLemmas
mod AgreementLemmas
pub mod EqualityLemmas
mod StopLemmas
mod WholeLemmas
mod AliasedLookups
mod RecordLemmas
mod PathLemmas
pub mod PartLemmas
mod WayLemmas
mod MetadataNames
