pub mod Checks
pub mod Refusals
pub mod Reads
pub mod Slots
pub mod IsRelocs
