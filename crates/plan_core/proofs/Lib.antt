-- The lemmas of this crate: the lines of a plan's text, the reader's loop, and that a text is of one plan.
pub mod LineLaws
pub mod Counts
pub mod Stages
pub mod Begun
pub mod Unique
