pub mod Values
pub mod Spans
pub mod Narrow
mod Checked
mod Standing
