mod Cells
pub mod Numbered
mod Pushing
mod Standing
pub mod Tables
mod Writing
