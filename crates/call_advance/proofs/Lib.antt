-- The call advance, from its checks to its instants.
pub mod Checks
pub mod OnTables
pub mod Whole
