pub mod CommonStorages
pub mod Storages
pub mod Trees
pub mod WordNumbers
