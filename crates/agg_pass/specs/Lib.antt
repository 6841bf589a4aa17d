-- What contracts cite of a pass of an aggregate.
pub mod PassState
pub mod Spilled
