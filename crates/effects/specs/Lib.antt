pub mod PaperNumbers
pub mod Verdicts
pub mod Told
pub mod Ranges
pub mod ActionForms
