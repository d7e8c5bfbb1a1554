pub mod Replayed
pub mod Index
