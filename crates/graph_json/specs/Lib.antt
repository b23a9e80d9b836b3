pub mod Json
pub mod Placed
pub mod TraceLines
