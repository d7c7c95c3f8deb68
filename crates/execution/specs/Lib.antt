pub mod Operands
pub mod Ready
pub mod Runs
