pub mod Options
mod Texts
pub mod ReadingLaws
pub mod StepLaws
pub mod SmallLaws
pub mod Lists
pub mod MapLaws
mod LevelLaws
pub mod SkipLaws
mod ShortLaws
mod SelectLaws
pub mod PassingLaws
pub mod DirectLaws
pub mod ContentLaws
pub mod ScalarLaws
mod SmallNumberLaws
pub mod KeyLaws
