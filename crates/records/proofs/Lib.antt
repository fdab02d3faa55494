pub mod CellFacts
pub mod PairFacts
pub mod RecordFacts
pub mod ValueFacts
pub mod RunFacts
