pub mod Choices
pub mod Step
