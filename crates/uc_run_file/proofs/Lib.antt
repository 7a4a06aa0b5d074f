pub mod StringText
pub mod NumbersText
pub mod FragmentText
pub mod PieceSums
pub mod PointsJudged
pub mod FileText
pub mod FilesRead
pub mod Copied
