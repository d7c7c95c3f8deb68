-- What the contracts of a run by the rules cite.
pub mod Runs
pub mod Called
