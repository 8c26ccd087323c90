-- The lemmas of this crate: what each reader takes is what the printers write, and what they write is taken.
pub mod Parts
pub mod Steps
pub mod Fronts
pub mod Numbers
pub mod Leading
pub mod Hexadecimals
