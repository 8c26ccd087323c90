pub mod HoleEdits
pub mod TableReads
pub mod StartLists
pub mod Steps
pub mod TableSteps
pub mod Kept
