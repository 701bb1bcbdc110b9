pub mod There
pub mod Back
