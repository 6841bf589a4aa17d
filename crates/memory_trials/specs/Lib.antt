-- What contracts cite: lists of live chunks.
pub mod Held
