pub mod ForkLaws
pub mod RivalLaws
pub mod TurnLemmas
pub mod WakeLemmas
