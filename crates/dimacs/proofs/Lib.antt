pub mod Entries
pub mod Outcome
pub mod HeaderLine
pub mod Clauses
pub mod Gathering
pub mod Reading
pub mod FormulaText
