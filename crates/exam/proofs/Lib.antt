pub mod Comparing
pub mod ExamStages
pub mod Sizes
pub mod Numbers
