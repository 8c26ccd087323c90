pub mod Inputs
pub mod Ends
pub mod Layout
pub mod Places
pub mod Kept
pub mod NewMemory
