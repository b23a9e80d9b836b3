mod LastWords
mod Pairs
