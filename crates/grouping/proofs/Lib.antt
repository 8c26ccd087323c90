pub mod Weighing
pub mod Candidates
pub mod Heaviest
pub mod Marking
pub mod Connecting
