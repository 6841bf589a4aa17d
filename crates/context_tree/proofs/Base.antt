-- The words and lemmas of std that these proofs take.
pub use Rattle.std.proofs.Common.{Bool, Err, IfErr, IsSome, List, None, Ok, OnErr, OnOk, Option, Result, Some, [], ap, append_assoc, arith, false, get_or, inl, inr, length, map, min, refl, subst, sym, take, true, ℕ, ◌++◌, ◌+◌, ◌-◌, ◌<◌, ◌^◌, ◌∙◌, ◌∷◌, ◌≡◌, ◌≢◌, ◌≤◌, ◌⊎◌}
pub use Rattle.std.proofs.lemmas.Bool.{both_ways, cases_Bool, cases_eq, eq-eqb, eqb-true, false_from_ne_true, le-ltb, lt-ltb, ne_eqb, or_cases, or_left, or_parts, or_right}
pub use Rattle.std.proofs.lemmas.Bool.Decides.{nat_tests}
pub use Rattle.std.proofs.lemmas.List.{append-nil, length-append, map-append}
pub use Rattle.std.proofs.lemmas.List.Elements.{All-cons, All-head, All-tail}
pub use Rattle.std.proofs.lemmas.Result.{err_from_is_err_and}
pub use Rattle.std.specs.HashMap.{get}
pub use Rattle.std.specs.Map.{lookup}
pub use Rattle.std.specs.Option.{IfSome, option_map, option_map_or}
pub use Rattle.std.specs.Prelude.{MatchOption, codes, find, if◌then◌else◌, is_some, max, nat_lt, not, unwrap_or, ◌&&◌, ◌==◌, ◌||◌}
