pub mod LastLine
pub mod Carrying
pub mod Writing
pub mod Replaying
