-- What contracts cite: what holds of a trial at all times, and what its calls make of its contexts.
pub mod Standing
