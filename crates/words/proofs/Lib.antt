pub mod FaultFacts
pub mod NoteFacts
pub mod OutboxFacts
