pub mod CallGraph
pub mod Alike
pub mod Interfaces
pub mod BlockTables
