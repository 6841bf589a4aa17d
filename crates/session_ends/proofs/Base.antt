-- The words and lemmas of std that these proofs take.
pub use Rattle.std.proofs.Common.{All, AllPairs, Bool, Err, IfSome, List, None, Ok, OnErr, OnOk, Option, Result, Some, [], ap, append-nil, append_assoc, arith, false, inl, inr, length, map, refl, subst, suc, sym, true, zero, ℕ, ◌++◌, ◌+◌, ◌-◌, ◌<◌, ◌↔◌, ◌∙◌, ◌∷◌, ◌≡◌, ◌≢◌, ◌≤◌, ◌⊎◌}
pub use Rattle.std.proofs.Math.Bool.{and-false}
pub use Rattle.std.proofs.lemmas.Bool.{both_ways, cases_Bool, eq-eqb, eqb-false, eqb-true, false_from_ne_true, le-ltb, lt-ltb, ne_eqb}
pub use Rattle.std.proofs.lemmas.Bool.Decides.{nat_tests}
pub use Rattle.std.proofs.lemmas.List.{drop-append-le, drop-map, get_or-append-add, length-append, length-map, map-append}
pub use Rattle.std.proofs.lemmas.List.Elements.{All-cons, All-head, All-map, All-nil, All-push, All-tail, All-weaker}
pub use Rattle.std.specs.Option.{ok_or, option_and_then, option_map, option_to_list}
pub use Rattle.std.specs.Prelude.{IsSome, MatchOption, codes, drop, find, if◌then◌else◌, nat_lt, reverse, slice_get, slice_set, unwrap_or, ◌&&◌, ◌==◌}
pub use lib.Pointwise.{bytes_decides, pointwise}
