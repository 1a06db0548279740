mod MetLaws
mod AlongLaws
mod DecidedLaws
mod LabelLaws
mod ColumnLaws
mod RecordLaws
mod KeptLaws
mod FittingLaws
