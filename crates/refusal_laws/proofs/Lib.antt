mod Elements
mod LaidLines
mod UnitLines
mod CopyLines
mod TextLines
pub mod Readings
