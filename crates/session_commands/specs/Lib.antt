-- What a call answers and performs, and the deepest level as steps need it.
pub mod Answers
pub mod Performed
pub mod Deepest
