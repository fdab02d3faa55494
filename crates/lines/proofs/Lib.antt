pub mod MemberFacts
pub mod RingFacts
pub mod TakeFacts
