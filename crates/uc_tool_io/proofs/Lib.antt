pub mod HexPairs
pub mod Known
pub mod Printing
pub mod Parts
pub mod Written
pub mod Dumps
pub mod Gathering
