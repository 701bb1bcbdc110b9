-- Laws of writes.
pub mod Loops
pub mod Columns
pub mod Chains
pub mod Words
