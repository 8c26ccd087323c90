pub mod Fits
pub mod Extended
pub mod Forms
pub mod Rows
pub mod RoundTrip
pub mod SharedWords
pub mod Bounds
