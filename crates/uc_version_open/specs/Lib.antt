pub mod Refusal
pub mod Progress
pub mod Steps
pub mod HeldProgress
pub mod Parting
pub mod Lending
pub mod Reading
pub mod LogPositions
