-- The definitions that the contracts of this crate cite.
pub mod Histories
pub mod Weights
pub mod Graphs
pub mod Near
pub mod State
pub mod Linked
pub mod Links
pub mod Follows
pub mod Pushed
pub mod Views
pub mod Edges
