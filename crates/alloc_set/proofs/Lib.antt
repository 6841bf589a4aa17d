pub mod Regions
pub mod ClassSizes
pub mod Settled
pub mod Altered
pub mod Headed
pub mod Listed
pub mod Shelved
pub mod Counted
pub mod Empty
pub mod Flipped
pub mod Taken
pub mod Leads
pub mod Places
pub mod Aligned
mod Rows
pub mod Base
pub mod Lemmas
