pub mod Entries
pub mod EndedNames
pub mod Finds
pub mod Sizes
pub mod TablesInside
pub mod ReadableFacts
