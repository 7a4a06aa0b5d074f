pub mod Transactions
pub mod ReadSets
