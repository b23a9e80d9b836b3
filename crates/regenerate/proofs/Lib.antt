mod DueLemmas
mod NameCounts
mod NoneShared
mod Refusals
mod SharedResults
mod TurnedLists
