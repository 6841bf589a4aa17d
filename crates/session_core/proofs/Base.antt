-- The words and lemmas of std that these proofs take.
pub use Rattle.std.proofs.Common.{Bool, Err, IfSome, List, None, Ok, OnOk, Option, Result, Some, [], ap, append-nil, arith, false, length, length-append, refl, subst, suc, sym, true, ℕ, ◌*◌, ◌++◌, ◌+◌, ◌-◌, ◌<◌, ◌↔◌, ◌∙◌, ◌∷◌, ◌≡◌, ◌≤◌, ◌⊎◌}
pub use Rattle.std.proofs.lemmas.Bool.{both_ways, le-ltb, lt-ltb}
pub use Rattle.std.proofs.lemmas.Bool.Decides.{nat_tests}
pub use Rattle.std.proofs.lemmas.Grind.{common_steps}
pub use Rattle.std.proofs.lemmas.List.{append_assoc}
pub use Rattle.std.proofs.lemmas.List.Elements.{All-nil}
pub use Rattle.std.specs.Option.{option_map}
pub use Rattle.std.specs.Prelude.{All, codes, get_or, if◌then◌else◌, not, option_copied, replicate, slice_index, ◌==◌, ◌^◌}
