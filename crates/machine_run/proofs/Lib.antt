-- Lemmas on output on its way, on reads that are fed, and on runs.
pub mod Passing
pub mod Feeding
pub mod Served
pub mod TurnByTurn
pub mod Finishing
pub mod Drawing
