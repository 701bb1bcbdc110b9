-- A loop carried from one simulator to another, the order of the given bag, and what a call keeps: what the demands and the calls on tables share.
pub mod BagOrder
pub mod Counted
pub mod Ending
pub mod Fitting
pub mod Instants
pub mod Kept
pub mod Lift
pub mod SameBags
