pub mod Times
pub mod Moves
pub mod Records
