-- Laws of what the printing program asks: the front of a file that is too long, and the trace of an advance.
pub mod Front
pub mod Traced
pub mod Records
