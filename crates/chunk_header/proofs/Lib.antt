-- Lemmas for this crate, and for the allocators above it.
pub mod Words
pub mod Known
pub mod Doubling
pub mod Sums
pub mod Marks
pub mod Wrote
pub mod Put
