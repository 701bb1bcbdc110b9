pub mod Laws
pub mod Heads
pub mod Structs
pub mod OneRule
