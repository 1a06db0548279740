mod RecordLaws
pub mod LimitLaws
mod PairLaws
pub mod ContainerLaws
mod ListLaws
mod TextMapLaws
pub mod RecordStandingLaws
mod OneLaws
mod ContainerTrees
pub mod TableLaws
pub mod FieldNameLaws
mod MemoLaws
