-- Lemmas for this crate, and for the allocators above it.
pub mod Options
pub mod Addresses
pub mod Bytes
pub mod Copied
pub mod Asked
pub mod Held
pub mod Written
pub mod Apart
pub mod Steps
pub mod Carried
pub mod Contexts
pub mod Echo
