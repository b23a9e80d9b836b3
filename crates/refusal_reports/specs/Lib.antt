pub mod Advices
pub mod Columns
pub mod Refusals
pub mod Report
pub mod Statements
