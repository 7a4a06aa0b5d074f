pub mod NamesHeld
pub mod EmptyNames
pub mod Undone
pub mod Along
pub mod Released
pub mod Keeping
pub mod Turning
pub mod Extending
