-- The definitions that the contracts of this crate cite.
pub mod Sets
pub mod Made
pub mod Rows
pub mod Fitting
pub mod Counting
