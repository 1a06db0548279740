mod Readings
mod AnyLaws
mod AnySteps
mod Started
pub mod Grammar
mod GrammarWhole
pub mod StandingLaws
pub mod ValueTrees
mod RawTrees
mod TreeTests
mod ValueEquality
mod RawEquality
