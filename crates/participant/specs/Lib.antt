pub mod Calls
pub mod Signs
