mod ForkGames
mod NetGames
pub mod OneNet
mod OperationGames
mod FormsMean
mod SameOutputs
mod GameLaws
mod GameMeans
mod GraphMeans
mod SamplesMean
pub mod OtherRuns
mod Soon
mod TextRuns
mod RegionsMean
mod TextsMean
mod Progress
mod Existing
