pub mod Cutting
pub mod Padding
pub mod Placed
pub mod Walking
pub mod Adding
mod Uniting
