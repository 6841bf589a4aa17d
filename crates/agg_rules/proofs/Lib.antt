-- Lemmas for the laws of this crate.
pub mod Filters
pub mod Groups
pub mod Given
pub mod More
pub mod Ways
