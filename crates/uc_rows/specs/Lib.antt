pub mod RowBytes
pub mod Rising
pub mod Held
pub mod Fitting
pub mod Laying
