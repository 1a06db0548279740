pub mod Lone
pub mod Probe
pub mod Span
