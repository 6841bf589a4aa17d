-- The words and lemmas of std that these proofs take.
pub use Rattle.std.proofs.Common.{◌≡◌, ℕ, Bool, true, false, refl, ◌≢◌, ◌+◌, List, [], ◌∷◌, ◌++◌, Option, Some, None, sym, ap, arith, zero-add, ◌≤◌, not, cond, count_by, ◌∙◌, ◌<◌, inl, inr, find, subst, ◌-◌, ◌⊎◌, length, map, drop, ◌^◌, min, zero, suc, nat_eq, append_assoc}
pub use Rattle.std.proofs.lemmas.Bool.{cases_eq, eq-eqb, both_ways, false_from_ne_true, or_parts, cases_Bool, ne_eqb, eqb-false, eqb-true, ltb-true, le-ltb, true≢false, lt-ltb}
pub use Rattle.std.proofs.lemmas.Bool.Decides.{nat_tests}
pub use Rattle.std.proofs.lemmas.Grind.{common_steps}
pub use Rattle.std.proofs.lemmas.List.{length-map, reverse-append, append-nil}
pub use Rattle.std.proofs.lemmas.List.Elements.{All-head, All-tail, All-weaker, All-nil, All-append, All-cons, All-push, All-map, All-filter}
pub use Rattle.std.proofs.lemmas.List.Folds.{list_any-append, list_any_none}
pub use Rattle.std.proofs.lemmas.List.FromFn.{get_or-map-range_with_len}
pub use Rattle.std.proofs.lemmas.List.Sums.{sum_by-append, sum_by-cons}
pub use Rattle.std.specs.List.{sum_by, flat_map, range_with_len}
pub use Rattle.std.specs.Option.{option_map_or, option_and_then, option_map}
pub use Rattle.std.specs.Prelude.{◌==◌, if◌then◌else◌, unwrap_or, All, ◌||◌, codes, is_some, ◌&&◌, nat_lt, slice_get, reverse, slice_index, is_none, filter, replicate, take}
