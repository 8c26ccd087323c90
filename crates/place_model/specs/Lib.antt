pub mod Heap
pub mod Tables
