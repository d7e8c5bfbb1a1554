-- Loaded: laws of loaded lines for callers. The others serve the functions of this crate.
pub mod Writing
pub mod Words
pub mod Rest
pub mod Clause
pub mod Log
pub mod Loaded
