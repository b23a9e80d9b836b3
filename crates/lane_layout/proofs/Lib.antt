mod MarksOnPage
