pub mod Fragments
pub mod Forms
pub mod Code
pub mod Meaning
pub mod Machines
pub mod Ends
pub mod Frames
pub mod Countdown
