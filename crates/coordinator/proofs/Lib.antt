pub mod AskingFacts
pub mod GivingFacts
pub mod TableFacts
