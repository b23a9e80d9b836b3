-- Step systems, the laws of their firings, what every order of firing comes to, and runs.
pub mod BlockCounts
pub mod Choice
pub mod Control
pub mod Footprints
pub mod Laws
pub mod Marks
pub mod Moves
pub mod NameLine
pub mod Orders
pub mod Pacing
pub mod Play
pub mod ReadySet
pub mod Resuming
pub mod Runs
pub mod SourceOrder
pub mod OrderLaws
