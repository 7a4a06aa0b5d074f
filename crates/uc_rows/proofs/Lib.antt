pub mod RowsAgain
pub mod SameRows
pub mod RowOrder
pub mod Passed
pub mod Fitted
pub mod LaidTwice
pub mod LaidMore
