-- The definitions that the contracts of this crate cite.
pub mod Events
pub mod Traces
pub mod Profiles
pub mod Recorded
pub mod Stacks
pub mod GrantContexts
