pub mod NumberLaws
mod UniqueLaws
mod FewestLaws
mod JoinLaws
pub mod NetworkLaws
mod RangeLaws
mod ListedLaws
mod DeltaLaws
mod ListLaws
mod ListTextLaws
mod WholeListLaws
