pub mod Looking
pub mod Papers
