pub mod Words
pub mod ClauseText
pub mod Accepted
pub mod LogLines
pub mod TextLines
pub mod Runs
pub mod HeaderLine
