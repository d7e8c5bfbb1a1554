pub mod Choice
pub mod Links
