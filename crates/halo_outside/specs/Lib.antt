-- What contracts see of the outside.
pub mod Seen
pub mod Memory
pub mod Real
