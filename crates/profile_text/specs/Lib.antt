-- The definitions that the contracts of this crate cite.
pub mod Distinct
pub mod Profile
pub mod Grammar
pub mod Reading
pub mod Steps
