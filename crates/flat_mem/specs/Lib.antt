pub mod Areas
pub mod Calls
pub mod Decoded
pub mod Building
