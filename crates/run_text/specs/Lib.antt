-- What the printing program writes.
pub mod Text
pub mod Put
pub mod Printed
