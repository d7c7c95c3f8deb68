-- What the contracts of the programs that run cite.
pub mod Told
pub mod Faulting
