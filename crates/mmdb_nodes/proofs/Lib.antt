pub mod EntryLemmas
mod LeadLemmas
mod ByteLemmas
pub mod LongestLemmas
mod DifferLemmas
mod CountLemmas
mod SplitLemmas
mod ForestLemmas
pub mod TreeLemmas
