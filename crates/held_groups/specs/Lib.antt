-- What contracts cite of the groups that a pass holds.
pub mod Totals
pub mod Held
