-- Lemmas for this crate.
pub mod TotalLemmas
pub mod Sums
pub mod Chunks
pub mod Joining
pub mod Asked
