pub mod FlatBy
pub mod Pieces
pub mod Sections
