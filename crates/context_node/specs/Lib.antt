-- What contracts cite: a context as it is kept, what holds of it and what it stands for, and what calls do to it.
pub mod Kept
pub mod KeptChunks
pub mod Code
pub mod Soundness
pub mod State
pub mod Chunking
pub mod Making
pub mod Ending
pub mod Ran
