pub mod Cells
pub mod Moves
pub mod Memory
pub mod Region
pub mod Buffers
