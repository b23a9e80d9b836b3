mod GraphParts
mod Telling
mod NodesTold
mod SetNumbers
pub mod Texts
mod ClassesOfNames
mod LinesTold
mod NameWords
mod MarkedRows
mod WiresTold
