pub mod Marks
pub mod Replaced
pub mod Writing
