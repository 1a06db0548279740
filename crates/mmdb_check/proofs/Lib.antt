pub mod Inlines
mod Trees
mod Unfoldings
mod Owned
mod Sums
mod Marks
mod Passing
mod Accepting
mod Steps
mod Costs
mod Checks
mod Several
pub mod Members
mod LawLemmas
mod Halting
