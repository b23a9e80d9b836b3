pub mod DeclaredCommon
pub mod DeclaredData
mod DeclaredDims
pub mod DeclaredEquations
pub mod DeclaredForms
pub mod DeclaredKnown
mod DeclaredMembers
mod DeclaredNames
pub mod DeclaredPrograms
pub mod DeclaredSizes
pub mod DeclaredStandings
pub mod KnownStatements
pub mod PlacedAlike
pub mod PlacedBlocks
mod PlacedCommon
pub mod PlacedDeclared
pub mod PlacedEquations
pub mod PlacedLinks
mod PlacedNames
pub mod PlacedProgram
mod PlacedRight
pub mod PlacedWords
pub mod RightStorage
pub mod SymbolicNames
