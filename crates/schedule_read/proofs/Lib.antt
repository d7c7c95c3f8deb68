pub mod PartsStand
pub mod Payloads
pub mod Passing
pub mod FoundNodes
-- the whole file
pub mod Stages
pub mod Promises
pub mod NodeActions
pub mod LentSchedule
