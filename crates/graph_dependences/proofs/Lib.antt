pub mod Added
pub mod Between
pub mod Decisions
mod InOrder
pub mod WaitLaws
