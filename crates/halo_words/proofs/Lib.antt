-- Lemmas on the words of a command line.
pub mod Fronts
pub mod LookUps
pub mod Loops
pub mod Items
pub mod TableLines
pub mod ClapWords
pub mod ClapRules
pub mod ClapWalk
pub mod ClapIds
pub mod ClapItems
pub mod ClapLines
pub mod Parsed
pub mod Fits
pub mod Placing
