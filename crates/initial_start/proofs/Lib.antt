mod Modes
mod StartGiven
pub mod OwnStart
