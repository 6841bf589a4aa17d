-- What contracts cite: what a store is seen as, the session that it stands for, what a call does, and how ids lie.
pub mod State
pub mod StateCode
pub mod Placed
pub mod Calls
pub mod Owned
pub mod Plans
