pub mod ReplacedItems
pub mod NeededLines
pub mod WaitingValues
pub mod AlikeItems
pub mod OperationNumbers
pub mod OperationEffects
pub mod ValueTaking
pub mod FiringOperations
pub mod OperationMarkings
pub mod OperationTakers
pub mod OperationsApart
pub mod OperationFirings
mod OperationRuns
mod OperationPlaces
mod ExpressionOperations
mod PieceOperations
mod AssignOperations
mod KindOperations
pub mod ListEnds
pub mod OwnNeeds
pub mod ExecutableNeeds
pub mod NeededOperations
mod AimedAccesses
mod AimedOperations
mod CoveringNeeds
pub mod PieceFacts
pub mod TouchedLines
pub mod OperationLaws
mod OperationTraps
mod OperationPasses
pub mod OperationCounts
pub mod KnownTraps
pub mod PieceLines
pub mod OperandValues
pub mod PieceNodes
pub mod AmidPieces
pub mod OperationSteps
pub mod OperationEnds
pub mod RangeOrders
pub mod PieceRuns
pub mod OtherNodes
pub mod PiecesBeside
pub mod PassesBeside
pub mod OperationRest
pub mod OperationStages
pub mod OperationControl
pub mod LockstepOperations
pub mod DueOperations
pub mod DuePasses
pub mod DueMoments
pub mod PassedPieces
pub mod WholePieces
pub mod ChainOperations
pub mod FewOperations
