pub mod Settings
pub mod Choices
pub mod Run
