pub mod Temporaries
pub mod Shared
pub mod Numbered
