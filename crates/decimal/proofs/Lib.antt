mod Digits
pub mod Answers
mod Papers
