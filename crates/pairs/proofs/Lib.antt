-- Laws for the caller: Laws, Clearing (pair-counts).
pub mod Slots
pub mod Taking
pub mod Lines
pub mod Rows
pub mod Fronts
pub mod Copies
pub mod Clearing
pub mod Laws
