pub mod EntryTurns
pub mod Settling
pub mod Callers
