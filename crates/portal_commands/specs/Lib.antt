-- What holds while commands on portals are performed.
pub mod Making
pub mod Fetching
