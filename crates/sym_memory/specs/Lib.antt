pub mod Kept
pub mod Parts
pub mod Held
pub mod Starting
