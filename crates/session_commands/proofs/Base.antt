-- The words and lemmas of std that these proofs take.
pub use Rattle.std.proofs.Common.{Bool, Err, IfErr, IfOk, IfSome, List, None, Ok, OnErr, OnOk, Option, Result, Some, [], ap, append-nil, arith, false, find, inl, inr, is_some, length, refl, subst, suc, sym, true, zero, ℕ, ◌++◌, ◌+◌, ◌<◌, ◌==◌, ◌↔◌, ◌∙◌, ◌∷◌, ◌≡◌, ◌≢◌, ◌≤◌, ◌⊎◌}
pub use Rattle.std.proofs.lemmas.Bool.Decides.{nat_tests}
pub use Rattle.std.proofs.lemmas.List.{append_assoc, length-map}
pub use Rattle.std.specs.Option.{ok_or, option_and_then, option_map, option_map_or, option_or}
pub use Rattle.std.specs.Prelude.{All, IsErr, IsErrOf, IsOkUnless, codes, if◌then◌else◌, is_none, nat_le, nat_lt, not, slice_get, take, ◌-◌}
