mod RunsMade
pub mod FormsTold
