pub mod SnapLemmas
pub mod StackLemmas
