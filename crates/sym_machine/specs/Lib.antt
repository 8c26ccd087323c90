-- What contracts of the symbol machine cite.
pub mod Heap
pub mod Found
pub mod Reached
pub mod Placing
pub mod Programs
pub mod Asks
pub mod Turning
pub mod Serving
pub mod Rules
pub mod Seen
pub mod Steps
pub mod QuietTurns
pub mod Ends
pub mod Runs
