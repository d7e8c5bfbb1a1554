pub mod Tables
pub mod Aligned
