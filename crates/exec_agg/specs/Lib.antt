-- What contracts cite of a node of an aggregate.
pub mod Nodes
