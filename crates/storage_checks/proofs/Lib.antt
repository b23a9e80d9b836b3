pub mod FaultLines
mod GivenWordLemmas
mod KindRuns
mod MergedWords
mod PlacedNameLemmas
mod RunLemmas
mod SeenNames
mod WrittenWords
