pub mod Told
pub mod Steps
mod Adds
pub mod Acts
pub mod PaperNumbers
