pub mod CoordFacts
pub mod HeadFacts
pub mod Invariant
pub mod ListFacts
pub mod LogFacts
pub mod PartFacts
pub mod Runs
