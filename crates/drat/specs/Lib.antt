pub mod Lines
pub mod Loaded
pub mod Reading
