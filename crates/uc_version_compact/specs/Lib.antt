pub mod Compacting
pub mod Picking
pub mod Ranges
pub mod Asked
