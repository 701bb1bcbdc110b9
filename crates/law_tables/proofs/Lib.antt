-- An advance, a feed and a channel's turn on a model's tables are the definition's.
pub mod Until
pub mod Tables
pub mod Calls
pub mod Feeds
