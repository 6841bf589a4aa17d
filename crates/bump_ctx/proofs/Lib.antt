pub mod Kepts
pub mod Ledgers
pub mod Allocated
pub mod Resets
pub mod Rows
