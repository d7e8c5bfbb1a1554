-- Index (what the links of a key's entries lead to), Linking and Indexing (the index kept), Copying and Replaying (the lines replayed).
pub mod Copying
pub mod Index
pub mod Linking
pub mod Indexing
pub mod Replaying
