-- The kind that a name stands for is the one that has the name.
use Rattle.session_owners.proofs.Base.{◌≡◌, ◌≢◌, ◌↔◌, ℕ, ◌+◌, ◌-◌, zero, suc, List, [], ◌∷◌, map, All, slice_get, Option, Some, IfSome, ◌∙◌, inl, inr, arith, Contains, IsNone, cases_Bool, false_from_ne_true, All-head, All-tail}
use Rattle.session_owners.proofs.Words.{KindId, AreDifferent, Kind, table_of, IsExtension, is_text, is_text-means, is_text-same, kind_from, kind_named}

abbrev names : List Kind → List (List ℕ)
names kinds = map (λ k. k.name) kinds

-- a kind that is found has the name
named_within : (n : ℕ) (name : List ℕ) (kinds : List Kind) (kind : KindId) → kind_from n name kinds ≡ Some kind → Contains (names kinds) name
named_within n name [] kind e = absurd (cc e)
named_within n name (k ∷ ks) kind e =
    elim (cases_Bool (is_text k.name name)) [
      | inl y ↦ (0, omega arith, is_text-means k.name name y)
      | inr y ↦
          let rest : kind_from (n + 1) name ks ≡ Some kind = rw y at e in
          let w : Contains (names ks) name = named_within (n + 1) name ks kind rest in
          (suc w.0, omega (arith, w.1), w.2)
    ]

apart : (ns : List (List ℕ)) (i : ℕ) (x y : List ℕ) → All (λ other. other ≢ y) ns → slice_get ns i ≡ Some x → x ≢ y
apart [] i x y all e same = cc e
apart (n ∷ ns) zero x y all e same = let is : n ≡ x = cc e in All-head (λ (other : List ℕ). other ≢ y) n ns all (is ∙ same)
apart (n ∷ ns) (suc i) x y all e same = apart ns i x y (All-tail (λ (other : List ℕ). other ≢ y) n ns all) e same

-- the kind at a place is found by its name
at_named : (n : ℕ) (name : List ℕ) (kinds : List Kind) (i : ℕ) → AreDifferent (names kinds) → slice_get (names kinds) i ≡ Some name → kind_from n name kinds ≡ Some (record { 0 = n + i })
at_named n name [] i different e = absurd (cc e)
at_named n name (k ∷ ks) zero different e = grind (arith, is_text-same name)
at_named n name (k ∷ ks) (suc i) different e = grind (arith, apart (names ks) i name k.name different.0 e, false_from_ne_true (is_text k.name name), is_text-means k.name name, at_named (n + 1) name ks i different.1 e)

pub found_kind : (kinds : List Kind) (name : List ℕ) (o : Option KindId) → AreDifferent (table_of kinds).names → (IsNone o ↔ ¬ Contains (table_of kinds).names name)
    → IfSome o (IsExtension (table_of kinds)) → IfSome o (λ kind. slice_get (table_of kinds).names (kind.0 - 16) ≡ Some name) → o ≡ kind_named name kinds
found_kind kinds name x2 different none extension named = grind (arith, named_within, at_named)
