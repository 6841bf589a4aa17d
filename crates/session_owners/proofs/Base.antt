-- The words and lemmas of std that these proofs take.
pub use Rattle.std.proofs.Common.{Bool, Err, IfErr, List, None, Ok, OnErr, OnOk, Option, Result, Some, [], ap, append-nil, arith, cond, false, find, get_or, inl, inr, length, length-set, map, nat_eq, refl, replicate, reverse, slice_get, subst, suc, sym, take, true, zero, ℕ, ◌++◌, ◌+◌, ◌-◌, ◌<◌, ◌||◌, ◌↔◌, ◌∙◌, ◌∷◌, ◌≡◌, ◌≢◌, ◌≤◌}
pub use Rattle.std.proofs.lemmas.Bool.{both_ways, cases_Bool, cases_lt, eq-eqb, eqb-true, false_from_ne_true, le-ltb, lt-ltb, ne_eqb, or_parts}
pub use Rattle.std.proofs.lemmas.Bool.Decides.{nat_tests}
pub use Rattle.std.proofs.lemmas.Grind.{common_steps}
pub use Rattle.std.proofs.lemmas.List.{length-append, length-map, length-replicate, map-append, reverse-append, reverse-reverse, take-append-le}
pub use Rattle.std.proofs.lemmas.List.Elements.{All-cons, All-contains, All-contains_itself, All-filter, All-head, All-nil, All-tail}
pub use Rattle.std.proofs.lemmas.List.Sums.{sum_by-append, sum_by-cons}
pub use Rattle.std.proofs.lemmas.Map.Keys.{IsDistinct-head, IsDistinct-tail}
pub use Rattle.std.specs.BTreeMap.{is_at}
pub use Rattle.std.specs.Cmp.{unsigned_tied}
pub use Rattle.std.specs.List.{AllByRecursion, IsDistinct, list_any}
pub use Rattle.std.specs.Map.{keys_of, lookup, remove_entry, set_value}
pub use Rattle.std.specs.Option.{ok_or, option_map, option_map_or}
pub use Rattle.std.specs.Ordering.{eq_by_cmp, is_eq, nat_cmp, ordering_then}
pub use Rattle.std.specs.Prelude.{All, Contains, IfNone, IfSome, IsErr, IsNone, IsOk, IsTrue, OnSome, count_by, if◌then◌else◌, is_some, nat_lt, not, slice_index, slice_set, ◌&&◌, ◌==◌, ◌^◌}
pub use Rattle.std.specs.Set.{distinct_count}
pub use Rattle.std.specs.declared.cmp.Ordering.{Ordering}
