pub mod Steps
pub mod Passing
pub mod Deleting
pub mod Ordered
