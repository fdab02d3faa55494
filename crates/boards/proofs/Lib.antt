pub mod BoardFacts
