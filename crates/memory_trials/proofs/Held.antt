-- Lemmas on lists of live chunks.
use Rattle.std.proofs.Common.{◌≡◌, ℕ, zero, suc, ◌⊎◌, ◌++◌, List, [], ◌∷◌, length, Some, None, ap, ◌∙◌, sym, inl, inr, arith}
use Rattle.std.specs.Prelude.{slice_get}
use Rattle.std.proofs.lemmas.List.{length-append}
use Rattle.std.proofs.lemmas.Option.{slice_get_within}
use Rattle.addr_space.specs.declared.Addr.{Addr}
use Rattle.addr_space.specs.Footprint.{Footprint}
use Rattle.addr_space.specs.Live.{PutsLive}
use Rattle.memory_trials.specs.Held.{AreLive}
use Rattle.addr_space.proofs.Options.{none_or_some}

-- an element of a list with one more
get_push : {X : Type 0} (xs : List X) (x y : X) (k : ℕ) → slice_get (xs ++ x ∷ []) k ≡ Some y → (slice_get xs k ≡ Some y) ⊎ ((x ≡ y) × (length xs ≡ k))
get_push [] x y zero got = let is : x ≡ y = cc in inr (is, omega arith)
get_push [] x y (suc k) got = absurd (cc)
get_push (z ∷ xs) x y zero got = inl got
get_push (z ∷ xs) x y (suc k) got = elim (get_push xs x y k got) [
  | inl there ↦ inl there
  | inr last ↦ inr (last.0, omega (arith, last.1))
]

-- one more
pub held-more : (f g : Footprint) (size : ℕ) (chunks : List Addr) (at : Addr) → AreLive f size 0 chunks → f.live at ≡ None → PutsLive f g at (Some size) → AreLive g size 0 (chunks ++ at ∷ [])
held-more f g size chunks at held fresh puts = record {
  live = λ k a from got. elim (get_push chunks at a k got) [
    | inl there ↦ grind (arith, puts a, held.live k a from there)
    | inr last ↦ rw (← last.0) (grind (arith, puts at))
  ];
  apart = λ j k a b less first second. elim (get_push chunks at a j first) [
    | inl before ↦ elim (get_push chunks at b k second) [
      | inl there ↦ held.apart j k a b less before there
      | inr last ↦ λ e. none_or_some (f.live a) size (ap f.live (e ∙ sym last.0) ∙ fresh) (held.live j a (omega arith) before)
    ]
    | inr last ↦ absurd (omega (arith, last.1, slice_get_within (chunks ++ at ∷ []) k b second, length-append chunks (at ∷ [])))
  ];
}
