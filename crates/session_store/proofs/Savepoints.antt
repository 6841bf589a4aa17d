-- The search for a savepoint from the deepest level up, in the order in which a store keeps the levels and in that of the session.
use Rattle.session_store.proofs.Words.{◌≡◌, ℕ, zero, suc, ◌+◌, Bool, true, Option, Some, None, List, [], ◌∷◌, ◌++◌, length, refl, sym, ap, ◌∙◌, arith, ◌&&◌, if◌then◌else◌, nat_lt, option_or, lt-ltb, length-append, Level, deepest_named, deepest_named_from, is_named, savepoint, levels_of}
use Rattle.session_store.proofs.Depths.{ends, levels_are, levels_long}
use Rattle.std.proofs.lemmas.Bool.Decides.{nat_tests}

-- the number of a level that has the name
abbrev numbered : Bool → ℕ → Option ℕ
numbered b n = if b then Some n else None

none_behind : (o : Option ℕ) → o ≡ option_or o None
none_behind x0 = grind (arith, nat_tests)

or_either : (b : Bool) (n : ℕ) (below first : Option ℕ) → option_or (option_or (numbered b n) below) first ≡ option_or (numbered b n) (option_or below first)
or_either x0 n below first = grind (arith, nat_tests)

-- the last of some levels decides first
from_last : (n : ℕ) (name : List ℕ) (levels : List Level) (level : Level) → deepest_named_from n name (levels ++ level ∷ []) ≡ option_or (numbered (is_named name level) (n + length levels)) (deepest_named_from n name levels)
from_last n name [] level = grind (arith, nat_tests, none_behind (numbered (is_named name level) n), numbered (is_named name level) n, is_named name level, numbered)
from_last n name (x ∷ levels) level = grind (arith, nat_tests, numbered (is_named name x) n, is_named name x, from_last (n + 1) name levels level, or_either (is_named name level) (n + 1 + length levels) (deepest_named_from (n + 1) name levels) (numbered (is_named name x) n), is_named name level, numbered)

or_if : (b : Bool) (n : ℕ) (o : Option ℕ) → option_or (numbered b n) o ≡ (if b then Some n else o)
or_if x0 n o = grind (arith, nat_tests)

by_length : (k : ℕ) (name : List ℕ) (levels : List Level) → length levels ≡ k → deepest_named name levels ≡ savepoint name (levels_of levels)
by_length zero name [] e = refl
by_length zero name (x ∷ levels) e = absurd (omega (arith, e))
by_length (suc k) name [] e = refl
by_length (suc k) name (x ∷ levels) e =
    let last = ends (x ∷ levels) (omega arith) in
    ap (deepest_named name) last.1.1 ∙ go (λ ls f. by_length k name ls f) last.0 last.1.0 (let long = ap length last.1.1 in omega (arith, e, long, length-append last.0 (last.1.0 ∷ []))) ∙ sym (ap (λ (ls : List Level). savepoint name (levels_of ls)) last.1.1)
  where
    go : ((ls : List Level) → length ls ≡ k → deepest_named name ls ≡ savepoint name (levels_of ls)) → (outer : List Level) (level : Level) → length outer ≡ k → deepest_named name (outer ++ level ∷ []) ≡ savepoint name (levels_of (outer ++ level ∷ []))
    go shorter [] level f = refl
    go shorter (y ∷ outer) level f =
        let rest : deepest_named name (y ∷ outer) ≡ savepoint name (levels_of (y ∷ outer)) = shorter (y ∷ outer) f in
        let number : 2 + length outer ≡ length (levels_of (y ∷ outer)) + 1 = omega (arith, levels_long (y ∷ outer)) in
        let more : nat_lt 0 (length (levels_of (y ∷ outer))) ≡ true = lt-ltb 0 (length (levels_of (y ∷ outer))) (omega (arith, levels_long (y ∷ outer))) in
        from_last 2 name outer level
        ∙ or_if (is_named name level) (2 + length outer) (deepest_named_from 2 name outer)
        ∙ ap (λ (o : Option ℕ). if is_named name level then Some (2 + length outer) else o) rest
        ∙ ap (λ (n : ℕ). if is_named name level then Some n else savepoint name (levels_of (y ∷ outer))) number
        ∙ ap (λ (b : Bool). if b && is_named name level then Some (length (levels_of (y ∷ outer)) + 1) else savepoint name (levels_of (y ∷ outer))) (sym more)
        ∙ ap (savepoint name) (sym (levels_are (y ∷ outer) level))

-- the deepest level of at least 2 that has a name, by either
pub savepoint_is : (name : List ℕ) (levels : List Level) → deepest_named name levels ≡ savepoint name (levels_of levels)
savepoint_is name levels = by_length (length levels) name levels refl
