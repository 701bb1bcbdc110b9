-- Why the filled tables are a model's.
pub mod Rows
pub mod Ranges
pub mod Links
pub mod Live
pub mod Kin
pub mod Holding
pub mod Sources
pub mod Tables
pub mod Allowed
pub mod Ranged
