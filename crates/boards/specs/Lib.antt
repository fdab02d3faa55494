pub mod Boards
pub mod Kept
pub mod Sizes
