-- What callers cite, and what the casts and sums of this crate's own functions compute to.
pub mod Laws
pub mod Bits
