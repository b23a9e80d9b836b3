pub mod TableLemmas
pub mod NodeRanges
pub mod NodeCounts
pub mod TokenLineLemmas
mod PlaceRows
pub mod PlacesLemmas
pub mod LookupLemmas
