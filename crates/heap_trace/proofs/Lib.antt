-- The lemmas of this crate.
pub mod Results
pub mod Orders
pub mod Frames
pub mod Numbers
pub mod Blocks
pub mod Turns
pub mod Legality
pub mod Pushing
pub mod RunsTo
pub mod ReadTurns
pub mod Drawing
pub mod AreaPlans
pub mod RunTexts
pub mod RunProfiles
pub mod Joining
