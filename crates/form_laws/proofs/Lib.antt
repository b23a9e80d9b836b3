mod ProperCalls
mod ProperCounts
mod ProperExecutables
mod ProperExpressions
mod ProperLengths
pub mod ProperPrograms
mod ProperReading
pub mod ProperStatements
mod ProperSums
