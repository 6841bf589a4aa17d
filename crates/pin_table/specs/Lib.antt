pub mod Parts
pub mod Pins
