mod Greatest
mod MoreRows
mod PlacesTold
mod WaitsTold
mod WidthsTold
pub mod Gathered
