pub mod Laws
pub mod Worked
pub mod Fits
pub mod Fronts
