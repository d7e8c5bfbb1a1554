-- Laws for callers: Touched (which places are touched, and that they rise). Finding serves the readings of one literal, Rising, Cursors and Gathering the cursors of several.
pub mod Finding
pub mod Rising
pub mod Touched
pub mod Cursors
pub mod Gathering
