pub mod Owners
pub mod Steps
pub mod Released
pub mod Locks
pub mod Sound
pub mod TableCode
pub mod Phases
