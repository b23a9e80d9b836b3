pub mod TextSink
pub mod Texts
