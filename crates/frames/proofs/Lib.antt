pub mod AnswerLaws
pub mod GreetingLaws
pub mod ReadingLaws
pub mod CutLaws
pub mod NumberLaws
pub mod SerialLaws
pub mod Outcomes
