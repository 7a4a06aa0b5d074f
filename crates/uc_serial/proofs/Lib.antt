pub mod Untouched
pub mod Ranges
pub mod Unchanged
