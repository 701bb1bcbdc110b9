-- A channel's place, its checks, and its instants on the model's tables.
pub mod Places
pub mod Checked
pub mod OnTables
