-- What contracts cite: what a release says, the owners of a scene, and what is said of a tree.
pub mod Spoken
pub mod Filled
pub mod Level
