pub mod Calls
pub mod Groups
pub mod Verdicts
