pub mod Memories
pub mod Pieces
pub mod Runs
