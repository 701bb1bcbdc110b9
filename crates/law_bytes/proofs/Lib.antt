pub mod Rows
pub mod Alls
pub mod Refusals
pub mod Records
pub mod Sections
pub mod Four
pub mod Slices
