pub mod Portal
pub mod Portals
pub mod Kept
