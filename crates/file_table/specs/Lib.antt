pub mod Code
pub mod Descriptors
pub mod Files
pub mod Kept
