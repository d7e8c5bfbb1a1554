pub mod Links
pub mod Taking
