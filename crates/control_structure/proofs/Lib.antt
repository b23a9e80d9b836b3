mod EndsMet
pub mod ExecutableLemmas
pub mod Exits
pub mod InnermostSpans
pub mod LabelLemmas
pub mod Laminar
pub mod LoopTables
pub mod Meeting
mod NestingWalk
mod OpenCounts
pub mod OpenSpans
pub mod OwnExecutables
pub mod RoleLemmas
pub mod SourceLabels
mod Stops
pub mod Usable
pub mod Walks
