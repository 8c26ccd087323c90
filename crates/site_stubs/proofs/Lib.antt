pub mod Steps
pub mod Way
pub mod Turns
pub mod StubLaw
