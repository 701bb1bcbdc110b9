pub mod Keys
pub mod Overlaid
pub mod Ranges
