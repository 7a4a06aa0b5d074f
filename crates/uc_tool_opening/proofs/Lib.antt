pub mod LogAgain
pub mod Reasons
