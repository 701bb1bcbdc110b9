pub mod Fronts
pub mod Stores
