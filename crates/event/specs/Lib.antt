pub mod Decoded
pub mod PaperNumbers
