pub mod Names
pub mod Turns
pub mod Running
pub mod Answered
pub mod Stepping
pub mod Reports
