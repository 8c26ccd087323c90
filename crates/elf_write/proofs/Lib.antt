pub mod Assoc
pub mod Sets
pub mod Written
pub mod Headers
pub mod LayoutLaw
pub mod StillReadable
pub mod MemoryLaw
pub mod Above
