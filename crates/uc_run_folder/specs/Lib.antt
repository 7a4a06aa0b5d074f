pub mod Files
pub mod Steps
pub mod RunWorlds
pub mod Listing
pub mod RunStates
