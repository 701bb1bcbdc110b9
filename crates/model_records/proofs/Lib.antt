pub mod Fields
pub mod Before
pub mod Counting
