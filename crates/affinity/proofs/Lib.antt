-- The lemmas of this crate.
pub mod Comparisons
pub mod Sums
pub mod Spans
pub mod Reaches
pub mod Tables
pub mod Between
pub mod Linking
pub mod Newest
pub mod EntryWeights
pub mod HistoryLaws
pub mod Standing
pub mod Accesses
pub mod GraphLaws
