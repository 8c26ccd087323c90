mod Lives
mod Changes
pub mod Sums
mod Answering
mod Currents
mod Searching
mod Owning
mod Placing
mod Releasing
mod Testing
