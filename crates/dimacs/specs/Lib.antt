pub mod Limits
pub mod Outcome
pub mod HeaderLine
pub mod Entries
pub mod Clause
pub mod FormulaText
