pub mod PartFacts
pub mod SinkFacts
