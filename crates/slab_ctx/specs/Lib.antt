-- What contracts cite: the ledger, the state of a context, what the code keeps, and what calls do.
pub mod Ledger
pub mod Lives
pub mod State
pub mod Calls
pub mod Slots
pub mod Tree
pub mod Ranks
pub mod Order
pub mod Counts
pub mod Kept
pub mod Steps
