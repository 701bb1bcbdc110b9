-- Laws of ways and routes, in the order of the argument.
pub mod Counts
pub mod Nests
pub mod Routed
pub mod Placed
pub mod PortNodes
pub mod Steps
pub mod Passes
pub mod Total
