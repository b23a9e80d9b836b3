mod Beginnings
mod Begun
mod Chains
mod Coming
mod CommonSteps
mod Cutting
mod Deciding
mod Forests
mod Hanging
mod Held
mod Joining
pub mod Numbering
mod Parts
mod Placings
mod Reaches
mod Spans
mod WrongPlaces
