pub mod Together
pub mod Pushing
pub mod LastingPoints
pub mod Grouping
pub mod Building
pub mod Lists
pub mod Keys
pub mod Taking
pub mod Merging
pub mod Stepping
pub mod Parting
pub mod Rising
mod Cutting
mod Gathered
mod KeptPieces
mod NextCuts
mod FirstAbove
pub mod NextKeys
pub mod NestedLists
pub mod Effects
pub mod Choosing
pub mod Across
pub mod Parted
pub mod Kept
pub mod OutputRun
pub mod Staying
pub mod Leaving
pub mod Chosen
pub mod NumbersFall
pub mod Searched
pub mod StripeSteps
pub mod Onward
pub mod InTurn
pub mod Judged
pub mod OnTop
pub mod Best
pub mod Newest
pub mod Apart
