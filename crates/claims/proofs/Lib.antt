pub mod Claims
pub mod Papers
pub mod Practice
pub mod Sides
pub mod Assignments
pub mod Comparisons
pub mod Branches
pub mod Senior
