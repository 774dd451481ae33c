pub mod Answers
pub mod AnswerLaws
pub mod RowAnswers
pub mod RowAnswerLaws
