-- A feed's call, from its checks to its calls.
pub mod Checks
pub mod Found
pub mod Whole
