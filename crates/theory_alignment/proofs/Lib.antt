pub mod Groups
pub mod Sorting
pub mod Numbers
pub mod Aligned
