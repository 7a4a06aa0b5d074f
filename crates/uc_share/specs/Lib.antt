pub mod Claims
pub mod Stores
pub mod Picking
pub mod Installing
pub mod Live
pub mod Turns
pub mod Fronts
pub mod Rules
