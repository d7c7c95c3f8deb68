-- What the contracts of the programs' helpers cite.
pub mod Written
