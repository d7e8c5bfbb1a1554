pub mod Lookup
pub mod Cursors
