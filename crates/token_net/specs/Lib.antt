pub mod PieceRuns
pub mod WokenList
pub mod NetView
