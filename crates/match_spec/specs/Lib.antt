pub mod Stands
pub mod Parts
pub mod Matches
pub mod Keeps
pub mod Same
pub mod Steps
