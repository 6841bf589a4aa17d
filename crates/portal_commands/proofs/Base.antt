-- The words and lemmas of std that these proofs take.
pub use Rattle.std.proofs.Common.{Bool, Err, IfErr, IfSome, IsSome, List, None, Ok, OnOk, Option, Result, Some, [], ap, append-nil, arith, false, find, inl, is_some, length, map, refl, subst, suc, sym, true, ℕ, ◌*◌, ◌++◌, ◌+◌, ◌-◌, ◌<◌, ◌==◌, ◌↔◌, ◌∙◌, ◌∷◌, ◌≡◌, ◌≢◌, ◌≤◌, ◌⊎◌}
pub use Rattle.std.proofs.lemmas.Grind.{flat_map-append}
pub use Rattle.std.proofs.lemmas.List.{append_assoc, length-map}
pub use Rattle.std.proofs.lemmas.List.Sums.{fold-append}
pub use Rattle.std.proofs.lemmas.Option.{slice_get-get_or}
pub use Rattle.std.specs.Borrow.{Bor}
pub use Rattle.std.specs.List.{flat_map, position_or_len}
pub use Rattle.std.specs.Option.{option_and_then, option_copied, option_map, option_map_or}
pub use Rattle.std.specs.Prelude.{codes, cond, fold, if◌then◌else◌, is_none, nat_lt, not, position}
pub use Rattle.std.proofs.lemmas.Bool.Decides.{nat_tests}
