-- The meaning of the counters, their laws, the readers of one word, and the rivals.
pub mod Counting
pub mod CountersView
pub mod CounterLaws
pub mod CounterOrder
pub mod Forks
pub mod Rivals
pub mod Turns
