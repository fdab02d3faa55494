pub mod Faults
pub mod Kinds
pub mod Notes
pub mod Outboxes
pub mod Rows
