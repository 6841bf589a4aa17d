-- Lemmas for this crate.
pub mod InOrder
pub mod Files
pub mod Places
pub mod Standing
