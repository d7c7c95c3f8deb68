pub mod Settling
pub mod Callers
