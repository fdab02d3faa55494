pub mod Coding
pub mod Own
pub mod Sinks
