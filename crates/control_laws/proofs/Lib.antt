pub mod EndLaws
mod LoopBegins
mod LoopBlocks
mod LoopEntries
pub mod LoopPlaces
mod LoopRanges
mod LoopSpans
mod LoopSuccessors
mod LoopsHold
pub mod LoopsOfProgram
pub mod SuccessorBlocks
pub mod SuccessorLaws
