pub mod Heads
pub mod Lines
pub mod Nodes
pub mod Signs
pub mod Spellings
pub mod Statements
