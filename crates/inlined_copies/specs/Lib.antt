pub mod Changes
pub mod LabelCounts
pub mod LabelRows
pub mod PutCopies
pub mod UnitTables
pub mod LabelTables
pub mod NamedTables
