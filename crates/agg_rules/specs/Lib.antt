-- What contracts cite of aggregates: what they give of rows, and the passes that they make.
pub mod Rows
pub mod Passes
pub mod Steps
