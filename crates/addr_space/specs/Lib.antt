-- What contracts cite: the space's value, the footprint of a context in it, its live chunks, marked addresses, and lists
-- of contexts.
pub mod Space
pub mod Sound
pub mod Footprint
pub mod Live
pub mod Contexts
pub mod Spared
