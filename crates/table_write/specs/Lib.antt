-- What the contracts of the writer cite.
pub mod ActionTable
pub mod LocationTable
pub mod Pieces
