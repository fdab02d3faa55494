pub mod CoordinatorRules
pub mod Logs
pub mod Names
pub mod ParticipantRules
pub mod Statement
pub mod States
pub mod Turns
pub mod World
