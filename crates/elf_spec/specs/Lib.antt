pub mod Fields
pub mod Records
pub mod Tables
pub mod Relocations
pub mod Code
pub mod NewFile
pub mod Heap
pub mod Memory
