-- The stack of active snapshots, by its newest entry.
use Rattle.session_owners.proofs.Base.{◌≡◌, ◌↔◌, ℕ, ◌+◌, ◌-◌, Bool, true, false, List, [], ◌∷◌, ◌++◌, length, take, reverse, Option, Some, Result, Ok, Err, refl, sym, ap, ◌∙◌, arith, ◌==◌, IsOk, IsErr, option_map_or, both_ways, nat_tests, length-append, reverse-append, reverse-reverse, take-append-le}
use Rattle.session_owners.proofs.Words.{Active, SnapError, first_of, last_of}

-- the newest entry, and the others
pub last_newest : (rest : List Active) (entry : Active) → last_of (rest ++ entry ∷ []) ≡ Some entry
last_newest rest entry = ap first_of (reverse-append rest (entry ∷ []))

pub take_others : (rest : List Active) (entry : Active) → take (length (rest ++ entry ∷ []) - 1) (rest ++ entry ∷ []) ≡ rest
take_others rest entry =
    ap (λ (n : ℕ). take n (rest ++ entry ∷ [])) (let all : length (rest ++ entry ∷ []) ≡ length rest + 1 = length-append rest (entry ∷ []) in omega (arith, all))
    ∙ take-append-le (length rest) rest (entry ∷ []) (omega arith) ∙ take_all rest
  where
    take_all : (xs : List Active) → take (length xs) xs ≡ xs
    take_all [] = refl
    take_all (x ∷ xs) = ap (λ (ys : List Active). x ∷ ys) (take_all xs)

-- where there is a newest entry, the stack ends with it
pub ends_with : (stack : List Active) (entry : Active) → last_of stack ≡ Some entry → (rest : List Active) × (stack ≡ rest ++ entry ∷ [])
ends_with stack entry newest = go (reverse stack) (reverse-reverse stack) newest
  where
    go : (back : List Active) → reverse back ≡ stack → first_of back ≡ Some entry → (rest : List Active) × (stack ≡ rest ++ entry ∷ [])
    go [] whole e = absurd (cc e)
    go (x ∷ xs) whole e =
        let is : x ≡ entry = cc e in
        (reverse xs, sym whole ∙ reverse-append (x ∷ []) xs ∙ ap (λ (y : Active). reverse xs ++ y ∷ []) is)

-- the newest entry is of a level
abbrev is_at_level : ℕ → Option Active → Bool
is_at_level level newest = option_map_or (λ entry. entry.level == level) newest false

pub pop_refused : (stack : List Active) (level : ℕ) (r : Result (Unit {0}) SnapError) → IsOk r ↔ ((rest : List Active) × (snapshot : ℕ) × (stack ≡ rest ++ record { snapshot = snapshot; level = level } ∷ []))
    → IsErr r ↔ (option_map_or (λ entry. entry.level == level) (last_of stack) false ≡ false)
pop_refused stack level r held = (λ err. none err (last_of stack) refl, λ other. go r held other)
  where
    same : (n : ℕ) → (n == n) ≡ true
    same n = grind (arith, nat_tests)

    both : (x : Result (Unit {0}) SnapError) → IsOk x → IsErr x → ⊥
    both x0 ok err = grind (arith, nat_tests)

    none : IsErr r → (newest : Option Active) → last_of stack ≡ newest → is_at_level level newest ≡ false
    none err x1 e = grind (arith, nat_tests, ends_with, both)

    go : (x : Result (Unit {0}) SnapError) → IsOk x ↔ ((rest : List Active) × (snapshot : ℕ) × (stack ≡ rest ++ record { snapshot = snapshot; level = level } ∷ [])) → is_at_level level (last_of stack) ≡ false → IsErr x
    go (Err e) h other = refl
    go (Ok u) h other =
        let w = h.0 refl in
        let newest : last_of stack ≡ Some (record { snapshot = w.1; level = level }) = ap last_of w.2 ∙ last_newest w.0 (record { snapshot = w.1; level = level }) in
        absurd (both_ways (is_at_level level (last_of stack)) other (ap (is_at_level level) newest ∙ same level))
