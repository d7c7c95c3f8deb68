-- The numbers of the printed list, and what a call answers beside what is judged.
pub mod Refusals
pub mod Answers
