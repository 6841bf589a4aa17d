-- A stack whose entries at the bottom are of lower levels, and one that rises.
use Rattle.std.proofs.Common.{◌≡◌, ℕ, ◌+◌, ◌-◌, ◌<◌, ◌≤◌, Bool, true, false, cond, nat_eq, ltb, leb, List, [], ◌∷◌, ◌++◌, length, map, filter, reverse, take, drop, get_or, refl, sym, ap, ◌∙◌, subst, arith}
use Rattle.std.specs.List.{list_all}
use Rattle.std.proofs.lemmas.Bool.Decides.{nat_tests}
use Rattle.std.proofs.lemmas.List.{reverse-append, length-map, get_or-map, get_or-take, get_or_default, length-take-le, take-append-drop}
use Rattle.std.proofs.lemmas.List.Elements.{All-head, All-tail, filter-append}
use Rattle.std.proofs.lemmas.List.Sorted.{IsNonDecreasingBy-push}
use Rattle.snap_table.specs.declared.active.Active.{Active}
use Rattle.snap_table.specs.Snapshots.{is_deep, kept_below, lowered, IsRising, AreBelow}

-- ---- entries of lower levels alone, and of others alone

below_head : (level : ℕ) (entry : Active) (stack : List Active) → AreBelow level (entry ∷ stack) → entry.level < level
below_head level entry stack below = All-head (λ (e : Active). e.level < level) entry stack below

below_tail : (level : ℕ) (entry : Active) (stack : List Active) → AreBelow level (entry ∷ stack) → AreBelow level stack
below_tail level entry stack below = All-tail (λ (e : Active). e.level < level) entry stack below

none_deep : (level : ℕ) (stack : List Active) → AreBelow level stack → filter (is_deep level) stack ≡ []
none_deep level [] below = refl
none_deep level (entry ∷ stack) below =
    let low : entry.level < level = below_head level entry stack below in
    let shallow : leb level entry.level ≡ false = grind (arith, nat_tests, low) in
    ap (λ b. cond b (entry ∷ filter (is_deep level) stack) (filter (is_deep level) stack)) shallow ∙ none_deep level stack (below_tail level entry stack below)

all_kept : (level : ℕ) (stack : List Active) → AreBelow level stack → kept_below level stack ≡ stack
all_kept level [] below = refl
all_kept level (entry ∷ stack) below =
    let low : entry.level < level = below_head level entry stack below in
    let stays : ltb entry.level level ≡ true = grind (arith, nat_tests, low) in
    ap (λ b. cond b (entry ∷ kept_below level stack) (kept_below level stack)) stays ∙ ap (λ es. entry ∷ es) (all_kept level stack (below_tail level entry stack below))

same_entry : (level : ℕ) (entry : Active) → entry.level < level → lowered level entry ≡ entry
same_entry level entry low =
    let other : nat_eq entry.level level ≡ false = grind (arith, nat_tests, low) in
    ap (λ b. cond b (record entry { level = level - 1 }) entry) other

all_same : (level : ℕ) (stack : List Active) → AreBelow level stack → map (lowered level) stack ≡ stack
all_same level [] below = refl
all_same level (entry ∷ stack) below = λ i. same_entry level entry (below_head level entry stack below) i ∷ all_same level stack (below_tail level entry stack below) i

none_kept : (level : ℕ) (stack : List Active) → list_all (is_deep level) stack ≡ true → kept_below level stack ≡ []
none_kept level [] deep = refl
none_kept level (entry ∷ stack) deep =
    let here : leb level entry.level ≡ true = grind (arith, nat_tests) in
    let rest : list_all (is_deep level) stack ≡ true = grind (arith, nat_tests) in
    let goes : ltb entry.level level ≡ false = grind (arith, nat_tests, here) in
    ap (λ b. cond b (entry ∷ kept_below level stack) (kept_below level stack)) goes ∙ none_kept level stack rest

none_reversed : (test : Active → Bool) (stack : List Active) → filter test stack ≡ [] → filter test (reverse stack) ≡ []
none_reversed test [] none = refl
none_reversed test (entry ∷ stack) none = by (test entry) refl none (none_reversed test stack)
  where
    by : (b : Bool) → test entry ≡ b → cond b (entry ∷ filter test stack) (filter test stack) ≡ [] → (filter test stack ≡ [] → filter test (reverse stack) ≡ []) → filter test (reverse (entry ∷ stack)) ≡ []
    by true is gone later = absurd (cc)
    by false is gone later =
        ap (filter test) (reverse-append (entry ∷ []) stack)
        ∙ filter-append test (reverse stack) (entry ∷ [])
        ∙ ap (λ es. es ++ cond (test entry) (entry ∷ []) []) (later gone)
        ∙ ap (λ b. cond b (entry ∷ []) []) is

-- ---- entries of lower levels at the bottom

-- what is above them are all deep entries
pub deep_above : (level from : ℕ) (stack : List Active) → AreBelow level (take from stack) → filter (is_deep level) (drop from stack) ≡ filter (is_deep level) stack
deep_above level from stack below =
    sym (ap (filter (is_deep level)) (sym (take-append-drop from stack)) ∙ filter-append (is_deep level) (take from stack) (drop from stack) ∙ ap (λ es. es ++ filter (is_deep level) (drop from stack)) (none_deep level (take from stack) below))

pub deep_reversed : (level from : ℕ) (stack : List Active) → AreBelow level (take from stack) → filter (is_deep level) (reverse (drop from stack)) ≡ filter (is_deep level) (reverse stack)
deep_reversed level from stack below =
    sym (ap (λ es. filter (is_deep level) (reverse es)) (sym (take-append-drop from stack))
    ∙ ap (filter (is_deep level)) (reverse-append (take from stack) (drop from stack))
    ∙ filter-append (is_deep level) (reverse (drop from stack)) (reverse (take from stack))
    ∙ ap (λ es. filter (is_deep level) (reverse (drop from stack)) ++ es) (none_reversed (is_deep level) (take from stack) (none_deep level (take from stack) below))
    ∙ nil_last (filter (is_deep level) (reverse (drop from stack))))
  where
    nil_last : (es : List Active) → es ++ [] ≡ es
    nil_last [] = refl
    nil_last (e ∷ es) = ap (λ fs. e ∷ fs) (nil_last es)

-- where all above them are deep, they are what is kept
pub kept_bottom : (level from : ℕ) (stack : List Active) → AreBelow level (take from stack) → list_all (is_deep level) (drop from stack) ≡ true → take from stack ≡ kept_below level stack
kept_bottom level from stack below deep =
    sym (ap (kept_below level) (sym (take-append-drop from stack))
    ∙ filter-append (λ (e : Active). ltb e.level level) (take from stack) (drop from stack)
    ∙ ap (λ es. kept_below level (take from stack) ++ es) (none_kept level (drop from stack) deep)
    ∙ ap (λ es. es ++ []) (all_kept level (take from stack) below)
    ∙ nil_last (take from stack))
  where
    nil_last : (es : List Active) → es ++ [] ≡ es
    nil_last [] = refl
    nil_last (e ∷ es) = ap (λ fs. e ∷ fs) (nil_last es)

-- lowering leaves them as they are
pub lowered_bottom : (level from : ℕ) (stack : List Active) → AreBelow level (take from stack) → stack ≡ map (lowered level) (take from stack) ++ drop from stack
lowered_bottom level from stack below = sym (take-append-drop from stack) ∙ ap (λ es. es ++ drop from stack) (sym (all_same level (take from stack) below))

-- ---- a stack that rises

-- an entry of a lower level has none but such below it
pub below_rising : (level at : ℕ) (stack : List Active) (d : Active) → IsRising stack → at < length stack → (get_or stack at d).level < level → AreBelow level (take (at + 1) stack)
below_rising level at stack d rising within low k e before =
    let len : length (take (at + 1) stack) ≡ at + 1 = length-take-le (at + 1) stack (omega (arith, within)) in
    let below : k < at + 1 = omega (arith, before, len) in
    let read : get_or (take (at + 1) stack) k e ≡ get_or stack k d = get_or-take (at + 1) stack k e below ∙ get_or_default stack k e d (omega (arith, below, within)) in
    let less : (get_or stack k d).level ≤ (get_or stack at d).level = rising k at d (omega (arith, below)) within in
    subst (λ (x : Active). x.level < level) (sym read) (omega (arith, less, low))

-- it rises with one more entry on it that is of no lower level
pub rising_pushed : (stack : List Active) (entry newest : Active) → IsRising stack → get_or stack (length stack - 1) newest ≡ newest → newest.level ≤ entry.level → IsRising (stack ++ entry ∷ [])
rising_pushed stack entry newest rising last low =
    IsNonDecreasingBy-push (λ (e : Active). e.level) stack entry rising
    (λ d some. subst (λ (x : Active). x.level ≤ entry.level) (sym (get_or_default stack (length stack - 1) d newest (omega (arith, some)) ∙ last)) low)

low_level : (level : ℕ) (entry : Active) → (lowered level entry).level ≡ cond (nat_eq entry.level level) (level - 1) entry.level
low_level level entry = elim (nat_eq entry.level level) as (λ b. (cond b (record entry { level = level - 1 }) entry).level ≡ cond b (level - 1) entry.level) [ true ↦ refl | false ↦ refl ]

in_order : (level a b : ℕ) → a ≤ b → cond (nat_eq a level) (level - 1) a ≤ cond (nat_eq b level) (level - 1) b
in_order level a b le = grind (arith, nat_tests, le)

-- lowering a level keeps it so
pub rising_lowered : (level : ℕ) (stack : List Active) → IsRising stack → IsRising (map (lowered level) stack)
rising_lowered level stack rising i j d le within =
    let len : length (map (lowered level) stack) ≡ length stack = simp length-map in
    let below : j < length stack = omega (arith, within, len) in
    let first : (get_or (map (lowered level) stack) i d).level ≡ cond (nat_eq (get_or stack i d).level level) (level - 1) (get_or stack i d).level = ap (λ (e : Active). e.level) (get_or-map (lowered level) stack i d d (omega (arith, le, below))) ∙ low_level level (get_or stack i d) in
    let second : (get_or (map (lowered level) stack) j d).level ≡ cond (nat_eq (get_or stack j d).level level) (level - 1) (get_or stack j d).level = ap (λ (e : Active). e.level) (get_or-map (lowered level) stack j d d below) ∙ low_level level (get_or stack j d) in
    let order : cond (nat_eq (get_or stack i d).level level) (level - 1) (get_or stack i d).level ≤ cond (nat_eq (get_or stack j d).level level) (level - 1) (get_or stack j d).level = in_order level (get_or stack i d).level (get_or stack j d).level (rising i j d le below) in
    omega (arith, first, second, order)
