-- What contracts cite: the ledger, the state of a context, and what the code keeps.
pub mod Ledger
pub mod State
pub mod Calls
pub mod Kept
pub mod Steps
