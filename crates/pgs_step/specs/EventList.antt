-- What a list of events keeps.
use Rattle.std.specs.Prelude.{◌≡◌, ℕ, ◌+◌, ◌-◌, ◌^◌, ◌≤◌, min, ◌⊎◌, List, [], ◌++◌, refl}
use Rattle.std.proofs.Common.{arith, inl, inr, append_assoc, append-nil, sym, ◌∙◌, ap}
use Rattle.pgs_step.specs.declared.events.What.{What}

-- the events in the order in which they came, how many it keeps at most, and how many it missed
pub record Kept : Type 0 where
  pub events : List What
  pub room : ℕ
  pub missed : ℕ

-- A count rose: it is greater, or it stands at the last number of its type.
abbrev pub Rose : ℕ → ℕ → Type 0
Rose before now = min (before + 1) (2 ^ 64 - 1) ≤ now

-- new has these events more, or new missed some
abbrev pub KeepsMore : Kept → List What → Kept → Type 0
KeepsMore old xs new = ((new.events ≡ old.events ++ xs) × (new.missed ≡ old.missed)) ⊎ Rose old.missed new.missed

pub KeepsMore-none : (a : Kept) → KeepsMore a [] a
KeepsMore-none a = inl (sym (append-nil a.events), refl)

pub KeepsMore-more : (a b c : Kept) (xs ys both : List What) → KeepsMore a xs b → KeepsMore b ys c → xs ++ ys ≡ both → KeepsMore a both c
KeepsMore-more a b c xs ys both p q e =
    elim p as (λ _. KeepsMore a both c) [
      | inl h ↦ elim q as (λ _. KeepsMore a both c) [
        | inl k ↦ inl (k.0 ∙ ap (λ z. z ++ ys) h.0 ∙ append_assoc a.events xs ys ∙ ap (λ z. a.events ++ z) e, k.1 ∙ h.1)
        | inr k ↦ inr (omega (arith, h.1, k))
      ]
      | inr h ↦ inr (elim q as (λ _. Rose a.missed c.missed) [ inl k ↦ omega (arith, h, k.1) | inr k ↦ omega (arith, h, k) ])
    ]
