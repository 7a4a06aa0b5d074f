pub mod Cuts
pub mod HeldSums
pub mod InTurn
pub mod Refusals
