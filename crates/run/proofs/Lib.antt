pub mod Clearing
pub mod Choosing
pub mod Taking
pub mod Turns
pub mod Numbered
pub mod Phases
