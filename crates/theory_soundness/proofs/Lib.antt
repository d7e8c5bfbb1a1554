pub mod Sound
pub mod Rules
pub mod Times
pub mod Without
pub mod Removals
pub mod Written
