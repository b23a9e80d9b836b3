pub mod Literals
pub mod Folding
pub mod Items
pub mod Simplified
pub mod Tables
pub mod Plans
pub mod StatementCounts
