-- What the contracts of the readers of nodes and tree cite.
pub mod Index
pub mod Ends
pub mod Walks
