-- Laws of the tables by node and by link.
pub mod Nodes
pub mod Loops
pub mod Begun
pub mod Order
