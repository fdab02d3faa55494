pub mod TextFacts
pub mod SampleFacts
