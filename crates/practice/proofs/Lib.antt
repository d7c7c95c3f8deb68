pub mod Draws
pub mod Returns
