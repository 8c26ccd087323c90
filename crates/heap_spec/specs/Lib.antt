-- The definitions that the contracts of this crate and of those above it cite.
pub mod Places
pub mod Tables
pub mod Requests
pub mod Service
pub mod Functions
