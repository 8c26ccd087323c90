pub mod Places
pub mod Decisions
pub mod Operations
pub mod Standing
