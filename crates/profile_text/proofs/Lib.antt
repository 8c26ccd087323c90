-- The lemmas of this crate.
pub mod Laws
pub mod Addresses
pub mod DistinctLaws
pub mod LineLaws
pub mod Stages
pub mod Begun
pub mod Unique
