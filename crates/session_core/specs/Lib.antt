-- What contracts cite: what a method answers for the elements of the rules that it performs, and what is kept.
pub mod Ended
pub mod Lines
pub mod Turns
pub mod Begun
