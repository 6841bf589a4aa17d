pub mod Kept
pub mod Mode
pub mod Name
pub mod EventList
pub mod Text
