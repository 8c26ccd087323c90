-- The definitions that the contracts of this crate and of those above it cite.
pub mod Fits
pub mod Placing
pub mod Releasing
