mod SamplesTold
mod ThreeTexts
mod SamplesMade
mod FirstLines
