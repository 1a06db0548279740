mod ObjectLaws
mod WordLaws
mod StringLaws
mod FrontLaws
mod PlaceLaws
mod ReadingBack
pub mod ObjectTokens
pub mod LongerLaws
mod ScanLaws
mod GrammarLaws
mod FoundLaws
mod VectorLaws
mod RunEndLaws
