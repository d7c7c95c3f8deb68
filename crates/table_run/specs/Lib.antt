-- What the contracts of a run of a table cite.
pub mod Runs
pub mod Called
