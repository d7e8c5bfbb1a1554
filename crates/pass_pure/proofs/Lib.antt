pub mod Tests
pub mod Pass
