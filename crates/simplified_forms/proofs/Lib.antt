mod Entering
mod FirstPlaces
pub mod FoldedLists
mod FoldedWholes
mod ItemLemmas
mod JumpLemmas
mod JumpTables
pub mod LoopNumbers
pub mod PieceLemmas
pub mod RangeCounts
pub mod StatementLemmas
