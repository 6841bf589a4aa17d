pub mod PortalLemmas
pub mod KeptLemmas
pub mod ReachLemmas
pub mod Base
pub mod Words
pub mod Lemmas
