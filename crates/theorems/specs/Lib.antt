-- What is promised of the definition.
pub mod Demand3
pub mod Choices
pub mod ShortLog
pub mod Step
pub mod Sizes
pub mod Texts
pub mod WayBack
pub mod WayForward
pub mod Refusals
pub mod Aligning
pub mod Marks
pub mod ByLiteral
