-- What the contracts of code that reads and writes bytes by position cite.
pub mod Numbers
pub mod Reading
pub mod Places
pub mod Writing
pub mod Strides
pub mod Ends
pub mod Parts
pub mod Part
pub mod Padding
