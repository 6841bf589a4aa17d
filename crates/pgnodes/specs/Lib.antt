-- What contracts cite of a script of aggregates.
pub mod Lines
pub mod Rows
pub mod Plays
pub mod Turns
