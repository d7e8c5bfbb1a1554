-- For callers: Laws (where nothing is marked, what the lowest marked variable is).
pub mod Laws
-- For the proofs of this crate.
pub mod Digits
pub mod Words
