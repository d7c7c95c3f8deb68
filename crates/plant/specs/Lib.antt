-- What the contracts of the code that reads a plant's two sections cite.
pub mod Variables
pub mod Equations
pub mod ModeCounts
pub mod Sound
pub mod Driven
pub mod PlantRead
pub mod PaperNumbers
