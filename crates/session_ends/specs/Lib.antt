-- What contracts cite: where the contexts of plans lie, the way through portals, and the ends of levels in parts.
pub mod Place
pub mod PlaceLaws
pub mod Parts
pub mod Portals
