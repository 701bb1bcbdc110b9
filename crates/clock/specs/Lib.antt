pub mod Times
pub mod After
