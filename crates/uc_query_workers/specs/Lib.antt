pub mod Asking
pub mod Drawing
pub mod Draws
pub mod Given
pub mod Pieces
