pub mod KeptLemmas
pub mod NameLemmas
