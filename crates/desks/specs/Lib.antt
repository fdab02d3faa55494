pub mod Own
pub mod Rows
pub mod Steps
pub mod Worlds
