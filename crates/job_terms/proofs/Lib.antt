pub mod AnswersTold
