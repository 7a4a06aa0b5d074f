pub mod Joining
pub mod Composing
pub mod Adding
