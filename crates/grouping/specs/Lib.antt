-- The definitions that the contracts of this crate cite.
pub mod Weights
pub mod Greedy
pub mod Connected
pub mod Growing
pub mod Choosing
