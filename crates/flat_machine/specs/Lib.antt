-- What contracts of the flat machine cite.
pub mod Asks
pub mod Seen
pub mod Steps
pub mod Paused
pub mod Runs
pub mod Rules
pub mod Quiet
pub mod Slots
