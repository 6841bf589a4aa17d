pub mod Places
pub mod PartLemmas
