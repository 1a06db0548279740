pub mod WalkLemmas
pub mod DescentLemmas
pub mod TableLemmas
pub mod GroupLemmas
mod RecordLemmas
pub mod LeadLemmas
pub mod HighBits
pub mod Visits
mod Points
mod Progress
mod Sweeps
mod Counts
mod PointLemmas
pub mod StopLemmas
pub mod Narrow
mod LevelLemmas
