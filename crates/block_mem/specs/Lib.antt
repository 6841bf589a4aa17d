-- What contracts cite: a block's bytes.
pub mod Block
pub mod Cells
