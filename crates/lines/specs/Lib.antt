pub mod Bounds
pub mod Kept
pub mod Lines
pub mod Queues
pub mod Ring
pub mod Traces
