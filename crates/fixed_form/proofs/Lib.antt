mod Cards
mod Faults
mod Limits
mod Lines
mod SoFar
mod Steps
mod Texts
