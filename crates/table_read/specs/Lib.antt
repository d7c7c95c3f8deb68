-- What the contracts of the readers of a table cite.
pub mod Ends
pub mod TableParts
pub mod ActionIndex
pub mod OperandForms
pub mod LocationIndex
pub mod Promised
pub mod TableIndex
pub mod Lent
