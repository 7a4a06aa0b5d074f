pub mod Checkpoints
pub mod HeldCheckpoints
