-- Laws of the tables by component and by rule.
pub mod Loops
