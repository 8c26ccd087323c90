pub mod KeptLaws
pub mod BlockLaws
pub mod PartLaws
pub mod SpanLaws
pub mod MemoryLaws
pub mod ImageLaws
pub mod StartLaws
pub mod CellLaws
