pub mod Clash
pub mod Clashes
pub mod Clashing
pub mod Pure
pub mod Pass
pub mod Cleared
pub mod Weights
