mod DataWords
mod Pieces
mod TopAnswers
mod WordsMean
