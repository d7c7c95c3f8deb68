-- What the contracts of a program's index cite.
pub mod Rows
pub mod Filled
pub mod Lent
