pub mod Asking
pub mod Given
