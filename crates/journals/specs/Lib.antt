pub mod Bounds
pub mod Journals
pub mod Refusals
pub mod Slots
