pub mod Books
pub mod Records
pub mod SetBytes
