pub mod Bytes
pub mod Pairs
pub mod Ranged
pub mod Recs
pub mod Rows
pub mod Sizes
pub mod Texts
