pub mod Marking
pub mod Clashes
pub mod Resolving
pub mod Weights
pub mod Scan
