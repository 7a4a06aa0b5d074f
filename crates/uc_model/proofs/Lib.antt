pub mod Members
pub mod MeaningLaws
pub mod Stripes
pub mod Givers
pub mod Ranges
