pub mod Expected
pub mod Stages
pub mod Votes
