-- What the calls of a list of pending hooks do to its places.
use Rattle.std.proofs.Common.{◌≡◌, ◌<◌, List, [], ◌∷◌, ◌++◌, length, map, reverse, refl, sym, ◌∙◌, ap, arith, Bool, ◌==◌, IsTrue, Option, Some, None, IsSome, IsNone, IfSome, IfNone, true, false}
use Rattle.std.specs.Option.{option_to_list}
use Rattle.std.proofs.lemmas.List.{map-append, reverse-append, append-nil}
use Rattle.std.proofs.lemmas.Grind.{reverse_onto}
use Rattle.reset_callbacks.specs.Hook.{Hook}
use Rattle.reset_callbacks.proofs.ShelfSteps.{not_none}

-- the hooks of the places, newest first
abbrev pub newest_first : {B : Type 0} → (B → Hook) → List B → List Hook
newest_first meaning places = reverse (map meaning places)

pub newest_push :
    {B : Type 0} (xs ys : List B) (x : B) (meaning : B → Hook) → ys ≡ xs ++ x ∷ [] →
    newest_first meaning ys ≡ meaning x ∷ newest_first meaning xs
newest_push xs ys x meaning is = rw (is, map-append, reverse-append) refl

-- what `pop` says of a list
pub newest_pop :
    {B : Type 0} (xs ys : List B) (r : Option B) (meaning : B → Hook) → xs ≡ ys ++ option_to_list r →
    IfSome r (λ x. newest_first meaning xs ≡ meaning x ∷ newest_first meaning ys)
newest_pop xs ys None meaning is = tt
newest_pop xs ys (Some x) meaning is = newest_push ys xs x meaning is

empty_unless : {X : Type 0} (xs : List X) → (0 < length xs → ⊥) → xs ≡ []
empty_unless [] none = refl
empty_unless (x ∷ xs) none = absurd (none (omega arith))

pub none_pop :
    {B : Type 0} (xs ys : List B) (r : Option B) (meaning : B → Hook) → xs ≡ ys ++ option_to_list r →
    (0 < length xs → IsSome r) → (IsNone r → newest_first meaning xs ≡ []) × (newest_first meaning xs ≡ [] → IsNone r)
none_pop xs ys None meaning is some = (
  λ none. ap (newest_first meaning) (empty_unless xs (λ more. absurd (let no : false ≡ true = some more in cc))),
  λ none. refl,
)
none_pop xs ys (Some x) meaning is some = not_none _ _ _ (newest_push ys xs x meaning is)

pub unchanged_pop :
    {B : Type 0} (xs ys : List B) (r : Option B) (meaning : B → Hook) → xs ≡ ys ++ option_to_list r →
    IfNone r (newest_first meaning ys ≡ newest_first meaning xs)
unchanged_pop xs ys None meaning is = rw (is, append-nil) refl
unchanged_pop xs ys (Some x) meaning is = tt

append_one : {X : Type 0} (xs : List X) (x : X) → xs ++ x ∷ [] ≡ [] → ⊥
append_one [] x is = cc
append_one (y ∷ xs) x is = cc

pub empty_both :
    {B : Type 0} (xs : List B) (meaning : B → Hook) (b : Bool) → b ≡ (length xs == 0) →
    (IsTrue b → newest_first meaning xs ≡ []) × (newest_first meaning xs ≡ [] → IsTrue b)
empty_both [] meaning b is = (λ _. refl, λ _. is)
empty_both (x ∷ xs) meaning b is =
    let shown : newest_first meaning (x ∷ xs) ≡ reverse (map meaning xs) ++ meaning x ∷ [] = reverse_onto (map meaning xs) (meaning x) [] in (
      λ yes. absurd (grind arith),
      λ none. absurd (append_one (reverse (map meaning xs)) (meaning x) (sym shown ∙ none)),
    )
