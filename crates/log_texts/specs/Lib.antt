pub mod Handed
