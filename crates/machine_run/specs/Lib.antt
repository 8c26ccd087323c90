-- What contracts of machines and of their runs cite.
pub mod Machines
pub mod Steps
pub mod Output
pub mod Runs
pub mod Serving
