pub mod HoldingLemmas
pub mod RankLemmas
pub mod BesideLemmas
pub mod ObjectLemmas
pub mod Base
pub mod Words
pub mod Lemmas
