-- Lemmas on counts and on told bytes.
pub mod Counts
pub mod Told
