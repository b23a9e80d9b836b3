pub mod CanPerform
pub mod NeededLines
pub mod OperandLists
pub mod Seen
