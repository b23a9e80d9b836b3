pub mod BlockEnds
pub mod Counted
pub mod Innermost
pub mod LabelTable
pub mod OpenStack
pub mod OwnOperations
