pub mod Assoc
pub mod Formed
pub mod ProgramParts
pub mod ReadBack
pub mod ReadsLaw
