-- Lemmas on buffers in memory, reads that wait, steps, and runs as runs of any machine.
pub mod Buffers
pub mod Waiting
pub mod Stepping
pub mod ByRules
pub mod SameRuns
pub mod QuietTurns
pub mod Slots
