pub mod Draws
pub mod Left
pub mod Ends
pub mod Moves
pub mod Pieced
pub mod Seen
pub mod Shares
pub mod Zips
