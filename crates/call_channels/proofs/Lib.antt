-- A channel call by its counts.
pub mod Counts
