pub mod Lines
pub mod Carried
