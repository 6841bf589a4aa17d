-- How many references to each plan are held, and how many plans stand.
use Rattle.std.proofs.Common.{◌≡◌, ℕ, ◌+◌, Bool, true, cond, nat_eq, List, [], ◌∷◌, ◌++◌, length, Option, Some, None, sym, ap, ◌∙◌, arith}
use Rattle.std.specs.List.{IsDistinct, list_any}
use Rattle.std.specs.Map.{keys_of, lookup, set_value, remove_entry}
use Rattle.std.specs.Option.{is_some, option_map_or}
use Rattle.std.specs.Cmp.{nat_eq_equiv}
use Rattle.std.specs.Set.{distinct_count}
use Rattle.std.proofs.lemmas.Bool.{eqb-true}
use Rattle.std.proofs.lemmas.Map.{lookup-remove_entry, lookup-set_value}
use Rattle.std.proofs.lemmas.Map.Made.{is_some-lookup, length-from_keys}
use Rattle.std.proofs.lemmas.Map.Entries.{length-keys_of}
use Rattle.plan_store.specs.declared.plan.Plan.{Plan}
use Rattle.std.proofs.lemmas.Bool.Decides.{nat_tests}

-- the references of a plan, if there is one
abbrev refs : Option Plan → ℕ
refs found = option_map_or (λ (plan : Plan). plan.references) found 0

abbrev pub told : ℕ → List (ℕ × Plan) → ℕ
told q es = refs (lookup (nat_eq q) es)

by_key : (b : Bool) (found : Option Plan) (other : Plan) → refs (cond b (Some other) found) ≡ cond b other.references (refs found)
by_key x0 found other = grind (arith, nat_tests)

by_none : (b : Bool) (found : Option Plan) → refs (cond b None found) ≡ cond b 0 (refs found)
by_none x0 found = grind (arith, nat_tests)

told_set : (n q : ℕ) (es : List (ℕ × Plan)) (kept other : Plan) → lookup (nat_eq n) es ≡ Some kept → told q (set_value (nat_eq n) es other) ≡ cond (nat_eq n q) other.references (told q es)
told_set n q es kept other read = ap refs (lookup-set_value nat_eq_equiv (nat_eq n) (nat_eq_equiv.congr n) q other es (ap is_some read)) ∙ by_key (nat_eq n q) (lookup (nat_eq q) es) other

told_removed : (n q : ℕ) (es : List (ℕ × Plan)) → IsDistinct nat_eq (keys_of es) → told q (remove_entry (nat_eq n) es) ≡ cond (nat_eq n q) 0 (told q es)
told_removed n q es different = ap refs (lookup-remove_entry nat_eq_equiv (nat_eq n) (nat_eq_equiv.congr n) q es different) ∙ by_none (nat_eq n q) (lookup (nat_eq q) es)

told_here : (n q : ℕ) (es : List (ℕ × Plan)) (kept : Plan) → lookup (nat_eq n) es ≡ Some kept → nat_eq n q ≡ true → told q es ≡ kept.references
told_here n q es kept read same = ap (λ (k : ℕ). told k es) (sym (eqb-true n q same)) ∙ ap refs read

more : (t : Bool) (now old kept other : ℕ) → now ≡ cond t other old → (t ≡ true → old ≡ kept) → other ≡ kept + 1 → now ≡ old + cond t 1 0
more x0 now old kept other e f g = grind (arith, nat_tests)

less : (t : Bool) (now old kept other : ℕ) → now ≡ cond t other old → (t ≡ true → old ≡ kept) → other + 1 ≡ kept → now + cond t 1 0 ≡ old
less x0 now old kept other e f g = grind (arith, nat_tests)

same : (t : Bool) (now old kept other : ℕ) → now ≡ cond t other old → (t ≡ true → old ≡ kept) → other ≡ kept → now ≡ old
same x0 now old kept other e f g = grind (arith, nat_tests)

-- the references to each plan, where those to one have changed
pub refers_more : (n q : ℕ) (es : List (ℕ × Plan)) (kept other : Plan) → lookup (nat_eq n) es ≡ Some kept → other.references ≡ kept.references + 1 → told q (set_value (nat_eq n) es other) ≡ told q es + cond (nat_eq n q) 1 0
refers_more n q es kept other read e = more (nat_eq n q) _ (told q es) kept.references other.references (told_set n q es kept other read) (told_here n q es kept read) e

pub refers_less : (n q : ℕ) (es : List (ℕ × Plan)) (kept other : Plan) → lookup (nat_eq n) es ≡ Some kept → other.references + 1 ≡ kept.references → told q (set_value (nat_eq n) es other) + cond (nat_eq n q) 1 0 ≡ told q es
refers_less n q es kept other read e = less (nat_eq n q) _ (told q es) kept.references other.references (told_set n q es kept other read) (told_here n q es kept read) e

pub refers_alike : (n q : ℕ) (es : List (ℕ × Plan)) (kept other : Plan) → lookup (nat_eq n) es ≡ Some kept → other.references ≡ kept.references → told q (set_value (nat_eq n) es other) ≡ told q es
refers_alike n q es kept other read e = same (nat_eq n q) _ (told q es) kept.references other.references (told_set n q es kept other read) (told_here n q es kept read) e

-- the references to each plan, where one is gone
pub gone_less : (n q : ℕ) (es : List (ℕ × Plan)) (kept : Plan) → IsDistinct nat_eq (keys_of es) → lookup (nat_eq n) es ≡ Some kept → kept.references ≡ 1 → told q (remove_entry (nat_eq n) es) + cond (nat_eq n q) 1 0 ≡ told q es
gone_less n q es kept different read e = less (nat_eq n q) _ (told q es) kept.references 0 (told_removed n q es different) (told_here n q es kept read) (omega (arith, e))

pub gone_alike : (n q : ℕ) (es : List (ℕ × Plan)) (kept : Plan) → IsDistinct nat_eq (keys_of es) → lookup (nat_eq n) es ≡ Some kept → kept.references ≡ 0 → told q (remove_entry (nat_eq n) es) ≡ told q es
gone_alike n q es kept different read e = same (nat_eq n q) _ (told q es) kept.references 0 (told_removed n q es different) (told_here n q es kept read) (omega (arith, e))

-- the references to each plan, where a plan was made to which none is held
pub made_alike : (n q : ℕ) (es : List (ℕ × Plan)) (made : Plan) → made.references ≡ 0 → told q (es ++ (n, made) ∷ []) ≡ told q es
made_alike n q [] made e = grind (arith, nat_tests)
made_alike n q (x ∷ es) made e = grind (arith, nat_tests, made_alike n q es made e, x.0, told, x.1)

-- as many plans stand as any list of their numbers has different ones
pub length_different : (es : List (ℕ × Plan)) (numbers : List ℕ) → IsDistinct nat_eq (keys_of es) → ((q : ℕ) → list_any (nat_eq q) numbers ≡ is_some (lookup (nat_eq q) es)) → length es ≡ distinct_count nat_eq numbers
length_different es numbers different alike = sym (length-keys_of es) ∙ length-from_keys nat_eq_equiv (keys_of es) numbers different (λ q. sym (is_some-lookup (nat_eq q) es) ∙ sym (alike q))
