pub mod FileLists
pub mod Sound
pub mod Caches
pub mod FileCounts
pub mod KeptLemmas
