pub mod NumbersAgain
pub mod EntriesAgain
pub mod Walked
pub mod Grown
pub mod Sliced
pub mod Searched
pub mod Judged
pub mod Unique
