pub mod MergedStorage
pub mod MergedCounts
