pub mod Least
pub mod Fronts
pub mod Merging
pub mod Halves
pub mod Keys
