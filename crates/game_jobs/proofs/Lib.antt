pub mod GameTold
mod OwnForks
pub mod NameLines
mod Items
