-- The definitions that the contracts of this crate cite.
pub mod Plan
pub mod Grammar
pub mod Reading
pub mod Steps
pub mod Graphs
