pub mod Shown
pub mod Marks
pub mod Places
pub mod Folders
