pub mod Recursive
pub mod Replace
pub mod Deletions
pub mod Found
pub mod Pass
pub mod Order
pub mod Results
