-- What contracts of the command line's words cite.
pub mod Table
pub mod Grammar
pub mod Sound
pub mod Reading
pub mod Apps
pub mod Stops
