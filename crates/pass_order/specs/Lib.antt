pub mod Pass
pub mod Order
