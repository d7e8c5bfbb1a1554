pub mod Numbering
pub mod Turns
