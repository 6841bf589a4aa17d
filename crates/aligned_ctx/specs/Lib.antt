-- What contracts cite: what an aligned chunk asks, where it begins, and what leads from it to its inner chunk.
pub mod Aligned
