mod NumberLists
mod NumbersAgain
mod WordLists
