pub mod Stubs
pub mod Rewritten
