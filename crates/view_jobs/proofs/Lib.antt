mod Drawn
mod Known
mod Reported
mod Told
