pub mod AnswerSizes
