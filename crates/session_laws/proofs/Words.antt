-- Words of numbers, lists, trees and laws that most proofs of this crate take.
pub use Rattle.std.proofs.Common.{All, Bool, Err, IsTrue, List, None, Ok, Option, Result, Some, [], ap, append-nil, append_assoc, arith, codes, cond, count_by, drop, false, filter, find, flat_map, if◌then◌else◌, inl, inr, length, map, nat_eq, nat_le, nat_lt, not, refl, replicate, reverse, subst, suc, sym, take, true, unwrap_or, zero, ℕ, ◌++◌, ◌+◌, ◌-◌, ◌<◌, ◌∙◌, ◌∷◌, ◌≡◌, ◌≢◌, ◌≤◌, ◌⊎◌}
pub use Rattle.std.specs.Prelude.{is_none, is_some, option_and_then, option_to_list, slice_get, slice_index_or, slice_set, sum_by, ◌&&◌, ◌==◌, ◌||◌}
pub use Rattle.std.specs.Option.{option_map, option_map_or}
pub use Rattle.std.specs.List.{list_all, list_any}
pub use Rattle.std.proofs.lemmas.Bool.{and_from, and_parts, both_ways, cases_Bool, cases_eq, cases_lt, cond-false, cond-true, eq-eqb, eqb-false, eqb-true, false_from_ne_true, le-leb, le-ltb, leb-true, lt-leb, lt-ltb, ltb-false, ltb-true, ne_eqb, not_from_false, or_cases, or_from, or_left, or_parts, or_right}
pub use Rattle.std.proofs.lemmas.Bool.Decides.{nat_tests}
pub use Rattle.std.proofs.lemmas.List.{length-append, length-replicate, length-set, map-append, reverse-append, reverse-reverse, take_at}
pub use Rattle.std.proofs.lemmas.List.Elements.{All-append, All-cons, All-filter, All-head, All-nil, All-tail, All-weaker, filter-append}
pub use Rattle.std.proofs.lemmas.List.Sums.{get_or-le-sum_by, list_all-from_AllPass, sum_by-append, sum_by-cons, sum_by-set}
pub use Rattle.forest.specs.Forest.{AllNodes, Empty, Forest, Node, Once, at, changed, children, either, has, is_above, is_root, mapped, moved, parent_of, put, removed, size, subtree, times, with_children}
pub use Rattle.forest.specs.Walk.{all_changed, lead, order, order_at, swept}
pub use Rattle.forest.proofs.Trees.{Apart, Moves, apart_of, at_absent, at_some, changed_absent, children_absent, first_child_other, has_at, has_changed, has_children, has_none, has_of_removed, has_some, left_apart, once_changed, once_front, once_moved, once_put, once_removed, parent_stays, put_absent, removed_absent, removed_has, size_moved, size_put, size_removed, times_moved, times_none, times_put, times_removed, times_some, where_is}
pub use Rattle.forest.proofs.Mapped.{at_changed, at_changed_other, mapped-has, mapped-parent, mapped-size, mapped-times}
pub use Rattle.forest.proofs.Moved.{above_by_parent, above_none, at_moved, below_parent, level_up}
pub use Rattle.forest.proofs.Neighbours.{parent_absent, parent_root, root_absent}
pub use Rattle.forest.proofs.Walks.{children_in, children_removed, lead_leaf, lead_of_node, once_children, order_lead, parent_in}
pub use Rattle.lifetime_laws.specs.Once.{Parents, ReleasesOnce, acquires, closes, deletes, discards, ending, exits_last, first_parents, goes_childless, happens, has_context, is_first_context, locks, makes_context, makes_owner, none_left, nothing, numbering, numbers_items, one_where, opens, parents_behind, pops_newest, releases, same_item, shedding, stacking, unlocks}
pub use Rattle.std.proofs.lemmas.Option.{get_or_from_slice_get, slice_get_cases, slice_get_within}
