-- What the contracts of one event of the run of a table cite.
pub mod Entries
pub mod Situations
