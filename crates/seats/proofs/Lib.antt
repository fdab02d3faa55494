pub mod ExactFacts
pub mod SetFacts
pub mod TextFacts
pub mod ValueFacts
