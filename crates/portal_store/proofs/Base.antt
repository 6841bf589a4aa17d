-- The words and lemmas of std that these proofs take.
pub use Rattle.std.proofs.Common.{All, AllPairs, Bool, List, None, Option, Some, [], ap, arith, drop, false, inl, inr, length, map, position, refl, remove, slice_get, slice_index_or, slice_set, subst, suc, sym, take, true, zero, ℕ, ◌++◌, ◌+◌, ◌<◌, ◌∙◌, ◌∷◌, ◌≡◌, ◌≢◌, ◌≤◌}
pub use Rattle.std.proofs.Math.Seq.{map-set_same}
pub use Rattle.std.proofs.lemmas.Bool.{cases_eq, cases_lt}
pub use Rattle.std.proofs.lemmas.Bool.Decides.{nat_tests}
pub use Rattle.std.proofs.lemmas.List.{drop-map, get_or-drop, get_or-map, get_or-set_other, get_or-set_same, get_or_default, get_or_read, length-drop, length-map, length-set, map-append, take-map}
pub use Rattle.std.proofs.lemmas.List.Edits.{get_or-remove_above, get_or-remove_below, length-remove, map_over_more}
pub use Rattle.std.proofs.lemmas.List.Elements.{All-cons, All-head, All-nil, All-tail, All-weaker}
pub use Rattle.std.proofs.lemmas.List.Folds.{find_at}
pub use Rattle.std.proofs.lemmas.List.Kept.{AllPairs-cons}
pub use Rattle.std.proofs.lemmas.List.Quantifiers.{all_pairs_remove, position-Some}
pub use Rattle.std.proofs.lemmas.List.Sums.{prefix_len_is}
pub use Rattle.std.proofs.lemmas.Option.{slice_get_past, slice_get_read}
pub use Rattle.std.specs.Cmp.Lexicographic.{other_text, same_text}
pub use Rattle.std.specs.HashMap.{get}
pub use Rattle.std.specs.List.{position_or_len}
pub use Rattle.std.specs.Prelude.{IfSome, IsSome, OnSome, if◌then◌else◌, is_some, nat_lt, not, option_and_then, ◌-◌}
