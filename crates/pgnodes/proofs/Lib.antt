-- Lemmas for this crate.
pub mod Cuts
pub mod Passing
pub mod Alone
pub mod Turns
pub mod Putting
pub mod Taking
pub mod Beginning
