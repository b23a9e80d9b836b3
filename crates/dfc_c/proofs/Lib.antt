mod NoAnswers
mod WordLists
