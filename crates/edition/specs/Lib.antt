-- What the contracts of the editions' numbers cite.
pub mod Editions
