pub mod Sizes
pub mod Entries
pub mod Counts
pub mod Places
pub mod Stamps
