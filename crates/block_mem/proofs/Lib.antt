-- Lemmas for this crate, and for its callers.
pub mod Bytes
pub mod Cells
