-- Laws of what a call answers.
pub mod Answered
pub mod PassedOn
