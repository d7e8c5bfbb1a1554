pub mod Numbers
pub mod Words
pub mod Lines
pub mod Output
