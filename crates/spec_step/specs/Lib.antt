-- The account of a step that pulls, as the code's contracts cite it.
pub mod Pull
pub mod Put
pub mod Tables
pub mod TableStep
pub mod Flags
pub mod Tabled
pub mod Ranges
pub mod Carried
pub mod TablesOf
