pub mod Entries
pub mod CodePlaces
