pub mod Exactly
pub mod Sets
pub mod Sizes
pub mod Texts
