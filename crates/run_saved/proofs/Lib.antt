pub mod Entries
pub mod Fitting
pub mod Storing
pub mod Starting
