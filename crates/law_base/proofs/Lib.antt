-- General laws of tests, lists, sums, orders and bags, of checks in a row, of deciding rules, and of a call's loop.
pub mod Tests
pub mod Sums
pub mod Sorting
pub mod Bags
pub mod Lists
pub mod Everys
pub mod Results
pub mod Overlaid
pub mod Turns
