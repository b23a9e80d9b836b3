pub mod Capped
mod CountedWidths
pub mod ChangedRows
mod CopiesByTables
mod PuttingSteps
mod TabledLabels
mod CountedRounds
mod CountedLabels
pub mod NamesOfTables
pub mod WholeLists
mod SettledWidths
