pub mod Table
pub mod Reading
pub mod Output
