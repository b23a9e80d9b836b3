pub mod Faults
pub mod MemSink
pub mod MemSource
pub mod Read
pub mod Table
pub mod Write
pub mod TextBuffer
