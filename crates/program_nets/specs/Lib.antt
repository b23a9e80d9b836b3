pub mod Playing
pub mod Game
