pub mod Ask
pub mod Given
pub mod Feeding
pub mod Parting
pub mod Plans
pub mod Readable
