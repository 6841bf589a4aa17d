-- Lemmas for this crate.
pub mod Sums
