pub mod Calls
pub mod Demonstration
pub mod Texts
