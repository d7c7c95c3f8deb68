pub mod Answers
pub mod Evaluation
pub mod Forms
pub mod PaperNumbers
