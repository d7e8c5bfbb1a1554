-- What the code may rely on along a run.
pub mod Choices
pub mod Sizes
pub mod Table
