mod StandLemmas
mod HeaderLemmas
mod ScalarLemmas
mod BytesLemmas
pub mod WriteLemmas
mod CostLemmas
pub mod AllowanceLemmas
mod KnownLemmas
mod SectionLemmas
pub mod OnceLemmas
pub mod MovedLemmas
