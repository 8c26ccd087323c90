-- The definitions that the contracts of this crate and of those above it cite.
pub mod Layout
pub mod Place
pub mod Release
pub mod Sound
pub mod Reached
