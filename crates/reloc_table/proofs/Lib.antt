pub mod Sections
pub mod ListTests
mod Covered
mod Once
mod KeptTables
mod Searched
mod BadEntries
