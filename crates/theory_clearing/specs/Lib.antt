pub mod Clashes
pub mod Clashing
pub mod Weights
