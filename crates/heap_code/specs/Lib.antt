-- The definitions that the contracts of this crate and of those above it cite.
pub mod Pieces
pub mod Calls
pub mod Moving
pub mod Words
pub mod Rights
pub mod Images
