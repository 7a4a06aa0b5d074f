pub mod BySeq
pub mod Sorted
pub mod Points
pub mod Covers
pub mod Lookup
pub mod Covering
pub mod Apart
pub mod SeqsFall
pub mod Pieces
pub mod Over
pub mod SeqsOver
pub mod Covered
pub mod Cuts
pub mod Partitions
pub mod Spanned
pub mod Written
pub mod Sets
pub mod SameSets
mod SpanCuts
mod Flat
pub mod Filters
mod Greatest
mod Joins
mod Trees
mod Listed
pub mod Equal
pub mod Neighbours
mod Together
