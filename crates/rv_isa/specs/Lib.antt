pub mod Words
pub mod Table
pub mod Encoded
pub mod Split
pub mod Names
pub mod Compute
pub mod Addresses
