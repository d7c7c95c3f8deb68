pub mod StartLoop
pub mod StartBytes
pub mod StartTurns
pub mod PlantStart
pub mod AdmissionLaws
pub mod RunCalls
