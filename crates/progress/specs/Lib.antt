pub mod Progress
pub mod Growth
