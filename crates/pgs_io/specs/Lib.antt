pub mod Faults
pub mod Memory
pub mod Lines
pub mod Feeding
pub mod FedAnswers
pub mod FeedParts
pub mod LineLaws
