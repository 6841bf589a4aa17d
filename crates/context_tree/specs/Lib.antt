-- What contracts cite: what the tree is seen as and stands for, and what calls do to it.
pub mod State
pub mod StateCode
pub mod Calls
pub mod Soundness
pub mod Lookup
pub mod Making
