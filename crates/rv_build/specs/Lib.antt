pub mod Parts
pub mod RecordBytes
pub mod Built
pub mod Reads
pub mod Assembly
pub mod Generated
