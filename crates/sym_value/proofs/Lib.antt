pub mod WordFacts
pub mod PointerFacts
pub mod TestLaws
pub mod RowLaws
pub mod ApplyLaw
