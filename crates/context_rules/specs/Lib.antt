-- What contracts cite: the tree of contexts, its names, what each call makes of it, and why a call is refused.
pub mod Names
pub mod Contexts
pub mod Chunks
pub mod Ends
pub mod Refusals
pub mod Reports
pub mod Opening
