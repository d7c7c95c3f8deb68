pub mod Ahead
pub mod Asked
