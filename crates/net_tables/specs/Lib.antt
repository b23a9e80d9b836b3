pub mod PartsView
pub mod NetTables
pub mod LookupView
pub mod PlaceRowSteps
