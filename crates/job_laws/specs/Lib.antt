pub mod SourceRuns
pub mod Headline
pub mod GameLaws
pub mod Data
pub mod Existence
