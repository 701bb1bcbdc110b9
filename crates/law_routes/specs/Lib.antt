pub mod Nodes
pub mod Ways
pub mod Taken
