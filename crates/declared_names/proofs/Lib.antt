mod Appearing
mod Describing
mod KindsGiven
mod Repeats
mod StatementKinds
mod Telling
