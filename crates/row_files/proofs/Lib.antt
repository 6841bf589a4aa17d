-- Lemmas for this crate.
pub mod RowLemmas
