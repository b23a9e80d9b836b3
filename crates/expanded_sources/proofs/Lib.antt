pub mod HeldPieces
mod ListedSources
mod PlainPieces
mod Labelling
mod ContextLabels
mod UnitDeclarations
mod ReadRows
mod ChangedExpressions
mod ChangedStatements
mod AcceptedKinds
mod SymbolicTexts
mod NewNames
mod ContextNames
mod ChangedTrees
mod PutNames
mod PutTrees
mod TreePieces
