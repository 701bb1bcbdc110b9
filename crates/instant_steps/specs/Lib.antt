pub mod Sim
pub mod Verdicts
