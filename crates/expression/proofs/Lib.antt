mod Forms
mod Operands
mod PaperNumbers
mod Steps
mod TwoLeaves
pub mod Values
mod Wholes
pub mod Widths
