pub mod Memory
pub mod Widths
pub mod Calls
pub mod Start
