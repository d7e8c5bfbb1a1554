pub mod Index
pub mod Reading
