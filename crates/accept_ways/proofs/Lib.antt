-- Laws of ways counted on words.
pub mod Loops
pub mod Words
