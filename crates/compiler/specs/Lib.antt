-- What the contracts of the compiler cite.
pub mod Answers
pub mod Plans
