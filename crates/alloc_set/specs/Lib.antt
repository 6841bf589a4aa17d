-- What contracts cite: the ledger, the state of a context, and what the code keeps.
pub mod Ledger
pub mod State
pub mod Listed
pub mod Links
pub mod Calls
pub mod Kept
pub mod Steps
pub mod Live
pub mod Cut
pub mod Resize
