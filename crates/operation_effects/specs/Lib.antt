pub mod Works
pub mod Tasks
pub mod Done
pub mod OperandValues
pub mod Given
