pub mod CellLaws
pub mod LoadLaw
pub mod StoreLaw
pub mod Lists
pub mod MemoryLaws
pub mod CopyLaw
pub mod BufferLaw
