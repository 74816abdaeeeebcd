pub mod AnsweredLaws
pub mod Question
