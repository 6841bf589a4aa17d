-- What contracts cite: where blocks and chunks are, what holds of them, and what calls change.
pub mod Layout
pub mod Order
pub mod Kept
pub mod Steps
pub mod Held
pub mod Numbered
