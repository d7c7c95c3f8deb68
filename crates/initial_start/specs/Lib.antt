-- What the contracts of the code that gives a file's own start cite.
pub mod Initial
pub mod Held
