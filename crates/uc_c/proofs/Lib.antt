pub mod Laying
pub mod Beginning
pub mod Cutting
pub mod Taking
pub mod Owning
pub mod Ended
pub mod Again
