pub mod Linear
pub mod Plain
pub mod Seen
pub mod Subscripts
pub mod RangeLaws
