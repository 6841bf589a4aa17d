-- The lemmas of this crate that the answers take.
pub use Rattle.context_node.proofs.Entries.{flat_turn, kept_cleared, left_turn, none_has, none_left, numbers_turn, once_turn, size_turn, without_name}
pub use Rattle.context_node.proofs.Fronts.{front_at, front_changed, front_removed, kept_back, kept_now}
pub use Rattle.context_node.proofs.NamedParts.{kept_at, kept_changed, kept_flat, kept_fresh, kept_nameless, kept_none, kept_once, kept_put, kept_removed, kept_same, left_same}
pub use Rattle.context_node.proofs.Zeroing.{live_now, taken_is, took_zeros, zeros_more}
