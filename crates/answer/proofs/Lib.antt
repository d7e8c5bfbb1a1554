-- Table: laws that callers cite. The others serve the functions of this crate.
pub mod Table
pub mod Reading
pub mod Output
