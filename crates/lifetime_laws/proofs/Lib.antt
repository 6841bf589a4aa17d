-- Rows of the laws: transcripts that are lawful, and lists that are broken by one line.
pub mod Written
pub mod Transcripts
pub mod Rows
pub mod BrokenOnce
pub mod BrokenOrder
pub mod BrokenInside
pub mod BrokenCalls
pub mod BrokenMaking
pub mod Readings
pub mod Deciding
pub mod Replays
