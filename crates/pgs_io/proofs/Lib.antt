pub mod KnownLemmas
pub mod LineLemmas
pub mod NumberLemmas
pub mod FeedLemmas
pub mod FindingLemmas
mod PieceLemmas
