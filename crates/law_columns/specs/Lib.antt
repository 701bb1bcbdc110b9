pub mod ByPosition
