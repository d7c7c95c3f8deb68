-- What the contract of `read` cites.
pub mod Decimal
pub mod Parsing
