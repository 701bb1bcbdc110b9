pub mod Onwards
