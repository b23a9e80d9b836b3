pub mod Columns
pub mod Fault
pub mod Limits
pub mod OpenStmt
pub mod Reader
pub mod Reading
pub mod SourceLine
pub mod Statement
