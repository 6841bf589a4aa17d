-- What contracts cite: header words, block headers, the sizes of chunks and blocks, what a request is answered, and
-- a shelf without chunks.
pub mod Header
pub mod Growth
pub mod Answers
pub mod Shelves
