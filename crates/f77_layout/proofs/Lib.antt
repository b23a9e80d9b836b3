mod BlockDepths
pub mod GivenTrees
pub mod LabelsLead
mod LaidFacts
mod MadePrograms
mod Ranks
mod ToldLines
pub mod WellFormedPrograms
