pub mod GivenWords
pub mod Runs
pub mod Writing
