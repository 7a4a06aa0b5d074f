pub mod Numbers
pub mod Spelling
pub mod Starts
pub mod Held
pub mod Slices
pub mod Faults
