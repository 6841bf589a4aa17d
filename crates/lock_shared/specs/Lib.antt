pub mod ModeTable
pub mod Holdings
pub mod Objects
pub mod Blocking
pub mod Ranked
