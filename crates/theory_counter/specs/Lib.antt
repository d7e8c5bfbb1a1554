pub mod Ready
pub mod Front
