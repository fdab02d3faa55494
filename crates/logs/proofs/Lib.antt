pub mod GatherFacts
pub mod ListingFacts
pub mod LogFacts
pub mod TableFacts
