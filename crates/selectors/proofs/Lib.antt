pub mod Searching
pub mod Conflicts
pub mod Choices
pub mod Masks
pub mod Fittings
pub mod Selections
