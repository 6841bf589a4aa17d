-- Lemmas for this crate.
pub mod HeldRows
pub mod Going
pub mod Files
pub mod Spending
