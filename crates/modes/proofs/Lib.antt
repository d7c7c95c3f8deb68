mod Standing
pub mod Walks
pub mod Taking
pub mod Rates
