pub mod Turns
pub mod Collected
