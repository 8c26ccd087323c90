pub mod Stores
pub mod Machine
pub mod Calls
pub mod Turns
pub mod Runs
