-- What the contract of the code that reads a start's bytes cites.
pub mod StartRead
pub mod Admission
