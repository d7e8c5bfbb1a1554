-- Laws for callers: Laws (what stands, by places), Finding (hit, deleted_hit, first_match). Sliding serves `compact`.
pub mod Laws
pub mod Finding
pub mod Sliding
