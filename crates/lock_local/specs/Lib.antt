pub mod Locks
pub mod Counts
pub mod Places
pub mod Changes
pub mod Recalled
pub mod OwnerPlaces
pub mod Tagged
pub mod Code
