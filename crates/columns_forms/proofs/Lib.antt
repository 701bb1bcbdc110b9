pub mod InRow
pub mod InColumns
pub mod Turns
pub mod Wholes
