pub mod Prefixes
pub mod LongTexts
mod Buffered
mod MemLemmas
mod Transfers
