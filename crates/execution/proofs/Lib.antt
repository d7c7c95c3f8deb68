mod Scans
mod Lending
pub mod Formed
mod Events
pub mod Keeping
pub mod Outcomes
pub mod Starts
pub mod Stepping
pub mod Runs
pub mod Loops
