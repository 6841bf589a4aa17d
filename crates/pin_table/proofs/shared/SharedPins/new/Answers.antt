use Rattle.std.proofs.Common.{◌≡◌, ℕ, inl, inr, get_or, replicate, ◌∙◌, ap, arith}
use Rattle.std.proofs.lemmas.List.{get_or-replicate, get_or_past, length-replicate}
use Rattle.std.proofs.lemmas.Bool.{cases_lt}
use Rattle.pin_table.proofs.shared.SharedPins.new.Goals as goal

-- each of n equal numbers is that number, and it stands for those past the end too
same : (n i a : ℕ) → get_or (replicate n a) i a ≡ a
same n i a =
    elim (cases_lt i n) [
      | inl below ↦ get_or-replicate n i a a below
      | inr past ↦ get_or_past (replicate n a) i a (omega (arith, length-replicate n a))
    ]

pub returns-clause-none : goal.returns-clause-none
returns-clause-none c buffer = ap (λ xs. get_or xs buffer 0) (c.in_ok-vec.ensures.items_if_clones_equal (λ y e. e)) ∙ same 1024 buffer 0
