-- What the contracts of one event of a run by the rules cite.
pub mod Situations
