pub mod Batches
pub mod Opened
pub mod Whole
pub mod Later
pub mod Fronts
mod Fed
