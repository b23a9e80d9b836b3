pub mod Rewritten
pub mod OneForm
pub mod Running
