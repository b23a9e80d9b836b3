pub mod StoreText
pub mod DueGames
pub mod PlayedNets
