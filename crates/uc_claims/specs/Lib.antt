pub mod Claims
pub mod Holding
