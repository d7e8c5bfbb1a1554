pub mod Workspace
pub mod TextsRead
pub mod Handing
pub mod Called
