mod Counts
mod Faults
mod Lists
mod Looping
mod Storage
mod Whole
