mod Backwards
mod NumberedTexts
mod Pictures
mod Places
mod Steps
mod Sweeps
