pub mod MayBe
pub mod KnownKeeps
pub mod Found
pub mod Once
pub mod Parts
pub mod Replacing
pub mod Installed
pub mod Memtables
pub mod Free
pub mod Fresh
pub mod Placing
pub mod Fed
pub mod Snapped
pub mod Knowing
pub mod Onto
pub mod Counting
pub mod Searched
pub mod Few
pub mod Refused
pub mod Changes
pub mod Filling
pub mod Small
pub mod Kept
pub mod Opened
pub mod Along
pub mod Ids
pub mod InPlace
pub mod Growing
pub mod SameRuns
mod First
mod Flagged
mod Collected
mod Unclaimed
mod Picked
mod Places
mod Noted
mod Counted
mod StepsKept
mod Leading
mod Stretches
mod Looking
mod Lone
mod Beside
