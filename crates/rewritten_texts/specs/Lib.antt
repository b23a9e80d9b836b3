pub mod ReadRuns
pub mod Texts
