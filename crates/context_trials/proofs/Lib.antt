pub mod Silent
pub mod Standing
pub mod Over
pub mod Rows
pub mod Hooked
