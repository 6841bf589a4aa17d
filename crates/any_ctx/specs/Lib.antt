-- What contracts cite: the ledgers of all kinds, what a context is, and what calls do to it.
pub mod SetLedger
pub mod SlabLedger
pub mod GenerationLedger
pub mod BumpLedger
pub mod Ledgers
pub mod Kinds
pub mod Contexts
pub mod Calls
