mod Numbers
pub mod UnfoldingLaws
mod ShortChars
mod Texts
