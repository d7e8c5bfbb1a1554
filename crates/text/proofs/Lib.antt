-- Laws of numbers, words and writers, which callers cite.
pub mod Numbers
pub mod Words
mod Lines
pub mod Output
pub mod Writing
pub mod FewDigits
