mod CallEdges
mod CallCycles
mod GrowingGraph
mod RunningUnits
mod AlikeOnes
mod BadCalls
mod KeptBlocks
mod MismatchedBlocks
pub mod FewCalls
mod RefusedUnits
