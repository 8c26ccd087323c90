pub mod Checks
pub mod Refusals
pub mod Symbols
pub mod Readable
pub mod Elf
