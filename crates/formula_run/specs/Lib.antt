pub mod Outcome
pub mod Result
