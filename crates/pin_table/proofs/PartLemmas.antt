-- The pins of both parts as one list, and after a change of either.
use Rattle.std.proofs.Common.{◌≡◌, ℕ, ◌+◌, ◌-◌, ◌≤◌, ◌^◌, Bool, true, false, cond, nat_eq, List, [], ◌∷◌, ◌++◌, length, Option, Some, None, refl, sym, ap, subst, ◌∙◌, arith}
use Rattle.std.specs.declared.cmp.Ordering.{Ordering}
use Rattle.std.specs.declared.cmp.Ordering.TheVariants.{Less, Equal, Greater}
use Rattle.std.specs.Prelude.{All, sum}
use Rattle.std.specs.Cmp.{IsEquivalence}
use Rattle.std.specs.Ordering.{nat_cmp, eq_by_cmp, match_ordering, ordering_reverse}
use Rattle.std.specs.BTreeMap.{is_at, insert_entry}
use Rattle.std.specs.List.{AllByRecursion, IsDistinct}
use Rattle.std.specs.List.Sorted.{IsStrictlySortedBy}
use Rattle.std.specs.Map.{keys_of, values_of, lookup, set_value, remove_entry}
use Rattle.std.specs.Option.{IfSome, is_some, unwrap_or, option_map}
use Rattle.std.proofs.lemmas.Bool.{eqb-true}
use Rattle.std.proofs.lemmas.Bool.Decides.{nat_tests}
use Rattle.std.proofs.lemmas.Cmp.{nat_cmp_total, eq_by_cmp_equiv}
use Rattle.std.proofs.lemmas.List.{map-append}
use Rattle.std.proofs.lemmas.List.Elements.{All-nil, All-cons, All-head, All-tail}
use Rattle.std.proofs.lemmas.List.Sums.{sum_by-cons, sum_by_push}
use Rattle.std.proofs.lemmas.Map.{lookup-set_value, lookup-remove_entry, keys-set_value}
use Rattle.std.proofs.lemmas.Map.Entries.{sum_by-remove_entry, sum_by-set_value, sum_by-insert_entry}
use Rattle.std.proofs.lemmas.Map.Made.{is_some-lookup}
use Rattle.std.proofs.lemmas.Map.Steps.{lookup-le-sum}
use Rattle.std.proofs.lemmas.Map.Keys.{IsDistinct-head, IsDistinct-tail, IsDistinct-push}
use Rattle.std.proofs.lemmas.Map.Views.{All-values-insert_entry, All-map-remove_entry, All-values-set_value, IfSome-lookup_from_All}
use Rattle.counts.specs.Counts.{count_of, total, AreCounts}
use Rattle.pin_table.specs.Parts.{merged, AreParts}

-- the laws of the buffers' equality
abbrev at : ℕ → ℕ → Bool
at q = is_at (nat_cmp q)

laws : IsEquivalence (eq_by_cmp nat_cmp)
laws = eq_by_cmp_equiv nat_cmp_total

one_class : (b x y : ℕ) → at b x ≡ true → at b y ≡ at x y
one_class b x y h = laws.congr b x y h

-- ---- an entry that goes to its place

crossed : (s t : Bool) (x y z : Option ℕ) → (s ≡ true → t ≡ false) → cond t y (cond s x z) ≡ cond s x (cond t y z)
crossed x0 x1 x y z h = grind (arith, nat_tests)

lookup-insert_entry : (q k n : ℕ) (es : List (ℕ × ℕ)) → lookup (at q) (insert_entry nat_cmp es k n) ≡ cond (at q k) (Some n) (lookup (at q) es)
lookup-insert_entry q k n [] = refl
lookup-insert_entry q k n (e ∷ es) = grind (arith, nat_tests, e.0, lookup-insert_entry q k n es, at q, at q k, at q e.0, e.1, at, crossed)

above_insert : (x k n : ℕ) (es : List (ℕ × ℕ)) → nat_cmp x k ≡ Less → AllByRecursion (λ y. nat_cmp x y ≡ Less) (keys_of es) → AllByRecursion (λ y. nat_cmp x y ≡ Less) (keys_of (insert_entry nat_cmp es k n))
above_insert x k n [] p a = (p, tt)
above_insert x k n (e ∷ es) p a = grind (arith, nat_tests, e.0, above_insert x k n es p a.1, a.1, a.0)

above_more : (x z : ℕ) (ks : List ℕ) → nat_cmp x z ≡ Less → AllByRecursion (λ y. nat_cmp z y ≡ Less) ks → AllByRecursion (λ y. nat_cmp x y ≡ Less) ks
above_more x z [] p a = tt
above_more x z (k ∷ ks) p a = (nat_cmp_total.trans x z k p a.0, above_more x z ks p a.1)

sorted_insert : (k n : ℕ) (es : List (ℕ × ℕ)) → IsStrictlySortedBy nat_cmp (keys_of es) → IsStrictlySortedBy nat_cmp (keys_of (insert_entry nat_cmp es k n))
unfolding IsStrictlySortedBy
sorted_insert k n [] s = (tt, tt)
sorted_insert k n (e ∷ es) s = by (nat_cmp k e.0) refl (sorted_insert k n es s.1)
  where
    by : (r : Ordering) → nat_cmp k e.0 ≡ r → IsStrictlySortedBy nat_cmp (keys_of (insert_entry nat_cmp es k n))
        → IsStrictlySortedBy nat_cmp (keys_of (match_ordering r ((k, n) ∷ e ∷ es) ((e.0, n) ∷ es) (e ∷ insert_entry nat_cmp es k n)))
    by Less p later = ((p, above_more k e.0 (keys_of es) p s.0), s)
    by Equal p later = s
    by Greater p later = (above_insert e.0 k n es (nat_cmp_total.antisymm e.0 k ∙ ap ordering_reverse p) s.0, later)

length_insert : (k n : ℕ) (es : List (ℕ × ℕ)) → lookup (at k) es ≡ None → length (insert_entry nat_cmp es k n) ≡ length es + 1
length_insert k n [] h = refl
length_insert k n (e ∷ es) h = grind (arith, nat_tests, e.0, length_insert k n es, e.1, at k)

-- ---- both parts as one list

pub count-merged : (es rest : List (ℕ × ℕ)) (q : ℕ) → count_of nat_cmp (merged es rest) q ≡ unwrap_or (lookup (at q) es) (count_of nat_cmp rest q)
count-merged [] rest q = refl
count-merged (e ∷ es) rest q = grind (arith, nat_tests, lookup-insert_entry q e.0 e.1 (merged es rest), e.0, e.1, at q e.0, count-merged es rest q, at q)

pub merged_counts : (es rest : List (ℕ × ℕ)) → All (λ n. 1 ≤ n) (values_of es) → AreCounts nat_cmp rest → AreCounts nat_cmp (merged es rest)
merged_counts [] rest a c = c
merged_counts (e ∷ es) rest a c =
    let later = merged_counts es rest (All-tail (λ n. 1 ≤ n) e.1 (values_of es) a) c in
    record {
      ordered = sorted_insert e.0 e.1 (merged es rest) later.ordered;
      counted = All-values-insert_entry nat_cmp e.0 e.1 (λ n. 1 ≤ n) (merged es rest) later.counted (All-head (λ n. 1 ≤ n) e.1 (values_of es) a);
    }

none_from_zero : (o : Option ℕ) → IfSome o (λ n. 1 ≤ n) → unwrap_or o 0 ≡ 0 → o ≡ None
none_from_zero x0 h e = grind (arith, nat_tests)

lookup_absent : (q : ℕ) (es : List (ℕ × ℕ)) → AllByRecursion (λ y. at q y ≡ false) (keys_of es) → lookup (at q) es ≡ None
lookup_absent q [] a = refl
lookup_absent q (e ∷ es) a = ap (λ b. cond b (Some e.1) (lookup (at q) es)) a.0 ∙ lookup_absent q es a.1

none_tail : (b : Bool) (n : ℕ) (o : Option ℕ) → cond b (Some n) o ≡ None → o ≡ None
none_tail x0 n o h = grind (arith, nat_tests)

-- a buffer that the array has is not counted by the table
pub table_zero : (es rest : List (ℕ × ℕ)) (b v : ℕ) → AreParts es rest → lookup (at b) es ≡ Some v → count_of nat_cmp rest b ≡ 0
table_zero es rest b v p found = grind (arith, nat_tests, p.apart)

parts_tail : (e : ℕ × ℕ) (es rest : List (ℕ × ℕ)) → AreParts (e ∷ es) rest → AreParts es rest
parts_tail e es rest p = record {
  distinct = IsDistinct-tail (eq_by_cmp nat_cmp) e.0 (keys_of es) p.distinct;
  counted = All-tail (λ n. 1 ≤ n) e.1 (values_of es) p.counted;
  apart = λ q c. none_tail (at q e.0) e.1 (lookup (at q) es) (p.apart q c);
  table = p.table;
  room = p.room;
}

head_missing : (e : ℕ × ℕ) (es rest : List (ℕ × ℕ)) → AreParts (e ∷ es) rest → lookup (at e.0) (merged es rest) ≡ None
head_missing e es rest p =
    let later = parts_tail e es rest p in
    let counts = merged_counts es rest later.counted later.table in
    let first : lookup (at e.0) (e ∷ es) ≡ Some e.1 = ap (λ b. cond b (Some e.1) (lookup (at e.0) es)) (laws.refl e.0) in
    let absent : lookup (at e.0) es ≡ None = lookup_absent e.0 es (IsDistinct-head (eq_by_cmp nat_cmp) e.0 (keys_of es) p.distinct) in
    none_from_zero (lookup (at e.0) (merged es rest)) (IfSome-lookup_from_All (λ n. 1 ≤ n) (at e.0) (merged es rest) counts.counted)
    (count-merged es rest e.0 ∙ ap (λ o. unwrap_or o (count_of nat_cmp rest e.0)) absent ∙ table_zero (e ∷ es) rest e.0 e.1 p first)

pub length-merged : (es rest : List (ℕ × ℕ)) → AreParts es rest → length (merged es rest) ≡ length es + length rest
length-merged [] rest p = omega arith
length-merged (e ∷ es) rest p = omega (arith, length_insert e.0 e.1 (merged es rest) (head_missing e es rest p), length-merged es rest (parts_tail e es rest p))

pub total-merged : (es rest : List (ℕ × ℕ)) → AreParts es rest → total (merged es rest) ≡ total es + total rest
total-merged [] rest p = omega arith
total-merged (e ∷ es) rest p =
    let later = parts_tail e es rest p in
    let counts = merged_counts es rest later.counted later.table in
    let sums : total (insert_entry nat_cmp (merged es rest) e.0 e.1) + unwrap_or (option_map (λ (x : ℕ). x) (lookup (at e.0) (merged es rest))) 0 ≡ total (merged es rest) + e.1 = sum_by-insert_entry (λ (x : ℕ). x) nat_cmp_total (merged es rest) e.0 e.1 counts.ordered in
    let none : unwrap_or (option_map (λ (x : ℕ). x) (lookup (at e.0) (merged es rest))) 0 ≡ 0 = ap (λ o. unwrap_or (option_map (λ (x : ℕ). x) o) 0) (head_missing e es rest p) in
    let more : total (e ∷ es) ≡ e.1 + total es = sum_by-cons (λ (x : ℕ). x) e.1 (values_of es) in
    omega (arith, sums, none, more, total-merged es rest later)

-- what a look-up in the array found
pub looked_up : (b : ℕ) (xs es : List (ℕ × ℕ)) (r o : Option ℕ) → r ≡ lookup (at b) xs → xs ≡ es → r ≡ o → lookup (at b) es ≡ o
looked_up b xs es r o e s is = ap (lookup (at b)) (sym s) ∙ sym e ∙ is

-- ---- a change of one count

same_test : (b q : ℕ) → at b q ≡ nat_eq b q
same_test b q = grind (arith, nat_tests)

same_buffer : (b q : ℕ) → at b q ≡ true → b ≡ q
same_buffer b q h = eqb-true b q (sym (same_test b q) ∙ h)

-- a count that is written over is one more, or one less
pub one_more_by : (f g : ℕ → ℕ) (b w : ℕ) → w ≡ f b + 1 → ((q : ℕ) → g q ≡ cond (at b q) w (f q)) → (q : ℕ) → g q ≡ f q + cond (nat_eq b q) 1 0
one_more_by f g b w e each q = grind (arith, nat_tests, same_test b q)

pub one_less_by : (f g : ℕ → ℕ) (b w : ℕ) → w + 1 ≡ f b → ((q : ℕ) → g q ≡ cond (at b q) w (f q)) → (q : ℕ) → g q + cond (nat_eq b q) 1 0 ≡ f q
one_less_by f g b w e each q = grind (arith, nat_tests, same_test b q)

pub count_here : (es rest : List (ℕ × ℕ)) (b v : ℕ) → lookup (at b) es ≡ Some v → count_of nat_cmp (merged es rest) b ≡ v
count_here es rest b v found = count-merged es rest b ∙ ap (λ o. unwrap_or o (count_of nat_cmp rest b)) found

pub count_behind : (es rest : List (ℕ × ℕ)) (b : ℕ) → lookup (at b) es ≡ None → count_of nat_cmp (merged es rest) b ≡ count_of nat_cmp rest b
count_behind es rest b none = count-merged es rest b ∙ ap (λ o. unwrap_or o (count_of nat_cmp rest b)) none

pub positive : (es rest : List (ℕ × ℕ)) (b v : ℕ) → AreParts es rest → lookup (at b) es ≡ Some v → 1 ≤ v
positive es rest b v p found = subst (λ o. IfSome o (λ n. 1 ≤ n)) found (IfSome-lookup_from_All (λ n. 1 ≤ n) (at b) es p.counted)

-- a count of the array is written
none_set : (s t : ℕ → Bool) (es : List (ℕ × ℕ)) (w : ℕ) → lookup t es ≡ None → lookup t (set_value s es w) ≡ None
none_set s t [] w h = refl
none_set s t (e ∷ es) w h = grind (arith, nat_tests, e.0, none_set s t es w, e.1)

pub parts_set : (es rest : List (ℕ × ℕ)) (b w : ℕ) → AreParts es rest → 1 ≤ w → AreParts (set_value (at b) es w) rest
parts_set es rest b w p l = record {
  distinct = subst (IsDistinct (eq_by_cmp nat_cmp)) (sym (keys-set_value (at b) es w)) p.distinct;
  counted = All-values-set_value (at b) (λ n. 1 ≤ n) es w p.counted l;
  apart = λ q c. none_set (at b) (at q) es w (p.apart q c);
  table = p.table;
  room = p.room;
}

pub count_set : (es rest : List (ℕ × ℕ)) (b v w : ℕ) → lookup (at b) es ≡ Some v → (q : ℕ) → count_of nat_cmp (merged (set_value (at b) es w) rest) q ≡ cond (at b q) w (count_of nat_cmp (merged es rest) q)
count_set es rest b v w found q =
    count-merged (set_value (at b) es w) rest q
    ∙ ap (λ o. unwrap_or o (count_of nat_cmp rest q)) (lookup-set_value laws (at b) (one_class b) q w es (ap is_some found))
    ∙ by (at b q)
    ∙ ap (λ (n : ℕ). cond (at b q) w n) (sym (count-merged es rest q))
  where
    by : (t : Bool) → unwrap_or (cond t (Some w) (lookup (at q) es)) (count_of nat_cmp rest q) ≡ cond t w (unwrap_or (lookup (at q) es) (count_of nat_cmp rest q))
    by true = refl
    by false = refl

pub total_set : (es rest : List (ℕ × ℕ)) (b v w : ℕ) → AreParts es rest → lookup (at b) es ≡ Some v → 1 ≤ w → total (merged (set_value (at b) es w) rest) + v ≡ total (merged es rest) + w
total_set es rest b v w p found l = grind (arith, nat_tests, at b, sum_by-set_value, total-merged es rest p, total-merged (set_value (at b) es w) rest (parts_set es rest b w p l), parts_set es rest b w p l)

-- a place of the array is freed
none_free : (s t : ℕ → Bool) (es : List (ℕ × ℕ)) → lookup t es ≡ None → lookup t (remove_entry s es) ≡ None
none_free s t [] h = refl
none_free s t (e ∷ es) h = grind (arith, nat_tests, e.0, none_free s t es, e.1)

keys_free : (P : ℕ → Type 0) (s : ℕ → Bool) (es : List (ℕ × ℕ)) → AllByRecursion P (keys_of es) → AllByRecursion P (keys_of (remove_entry s es))
keys_free P s [] a = tt
keys_free P s (e ∷ es) a = grind (arith, nat_tests, e.0, keys_free P s es a.1, a.1, a.0)

distinct_free : (s : ℕ → Bool) (es : List (ℕ × ℕ)) → IsDistinct (eq_by_cmp nat_cmp) (keys_of es) → IsDistinct (eq_by_cmp nat_cmp) (keys_of (remove_entry s es))
unfolding IsDistinct
distinct_free s [] d = tt
distinct_free s (e ∷ es) d = by (s e.0) (distinct_free s es d.1)
  where
    by : (t : Bool) → IsDistinct (eq_by_cmp nat_cmp) (keys_of (remove_entry s es)) → IsDistinct (eq_by_cmp nat_cmp) (keys_of (cond t es (e ∷ remove_entry s es)))
    by true later = d.1
    by false later = (keys_free (λ y. eq_by_cmp nat_cmp e.0 y ≡ false) s es d.0, later)

pub parts_free : (es rest : List (ℕ × ℕ)) (b : ℕ) → AreParts es rest → AreParts (remove_entry (at b) es) rest
parts_free es rest b p = record {
  distinct = distinct_free (at b) es p.distinct;
  counted = All-map-remove_entry (at b) (λ e. e.1) (λ n. 1 ≤ n) es p.counted;
  apart = λ q c. none_free (at b) (at q) es (p.apart q c);
  table = p.table;
  room = p.room;
}

pub count_free : (es rest : List (ℕ × ℕ)) (b v : ℕ) → AreParts es rest → lookup (at b) es ≡ Some v → (q : ℕ) → count_of nat_cmp (merged (remove_entry (at b) es) rest) q ≡ cond (at b q) 0 (count_of nat_cmp (merged es rest) q)
count_free es rest b v p found q =
    count-merged (remove_entry (at b) es) rest q
    ∙ ap (λ o. unwrap_or o (count_of nat_cmp rest q)) (lookup-remove_entry laws (at b) (one_class b) q es p.distinct)
    ∙ by (at b q) refl
    ∙ ap (λ (n : ℕ). cond (at b q) 0 n) (sym (count-merged es rest q))
  where
    by : (t : Bool) → at b q ≡ t → unwrap_or (cond t None (lookup (at q) es)) (count_of nat_cmp rest q) ≡ cond t 0 (unwrap_or (lookup (at q) es) (count_of nat_cmp rest q))
    by true h = ap (count_of nat_cmp rest) (sym (same_buffer b q h)) ∙ table_zero es rest b v p found
    by false h = refl

pub total_free : (es rest : List (ℕ × ℕ)) (b v : ℕ) → AreParts es rest → lookup (at b) es ≡ Some v → total (merged (remove_entry (at b) es) rest) + v ≡ total (merged es rest)
total_free es rest b v p found = grind (arith, nat_tests, at b, sum_by-remove_entry, total-merged es rest p, total-merged (remove_entry (at b) es) rest (parts_free es rest b p), parts_free es rest b p)

-- a new buffer takes a free place of the array
lookup_push : (b q n : ℕ) (es : List (ℕ × ℕ)) → lookup (at b) es ≡ None → lookup (at q) (es ++ (b, n) ∷ []) ≡ cond (at b q) (Some n) (lookup (at q) es)
lookup_push b q n [] h = ap (λ t. cond t (Some n) None) (laws.symm q b)
lookup_push b q n (e ∷ es) h = grind (arith, nat_tests, at q e.0, e.0, e.1, lookup_push b q n es (none_tail (at b e.0) e.1 (lookup (at b) es) h), none_tail (at b e.0) e.1 (lookup (at b) es) h, at b e.0, at b, crossed, at b q, at q)

counted_push : (b n : ℕ) (es : List (ℕ × ℕ)) → 1 ≤ n → All (λ m. 1 ≤ m) (values_of es) → All (λ m. 1 ≤ m) (values_of (es ++ (b, n) ∷ []))
counted_push b n [] l a = All-cons (λ m. 1 ≤ m) n [] l (All-nil (λ m. 1 ≤ m))
counted_push b n (e ∷ es) l a = All-cons (λ m. 1 ≤ m) e.1 (values_of (es ++ (b, n) ∷ [])) (All-head (λ m. 1 ≤ m) e.1 (values_of es) a) (counted_push b n es l (All-tail (λ m. 1 ≤ m) e.1 (values_of es) a))

pub parts_push : (es rest : List (ℕ × ℕ)) (b : ℕ) → AreParts es rest → lookup (at b) es ≡ None → count_of nat_cmp rest b ≡ 0 → AreParts (es ++ (b, 1) ∷ []) rest
parts_push es rest b p none zeros = record {
  distinct = subst (IsDistinct (eq_by_cmp nat_cmp)) (sym (map-append (λ (e : ℕ × ℕ). e.0) es ((b, 1) ∷ []))) (IsDistinct-push laws (keys_of es) b p.distinct (sym (is_some-lookup (at b) es) ∙ ap is_some none));
  counted = counted_push b 1 es (omega arith) p.counted;
  apart = λ q c. lookup_push b q 1 es none ∙ by q (at b q) refl c;
  table = p.table;
  room = p.room;
}
  where
    by : (q : ℕ) (t : Bool) → at b q ≡ t → 1 ≤ count_of nat_cmp rest q → cond t (Some 1) (lookup (at q) es) ≡ None
    by q true h c = absurd (omega (arith, c, zeros, ap (count_of nat_cmp rest) (same_buffer b q h)))
    by q false h c = p.apart q c

pub count_push : (es rest : List (ℕ × ℕ)) (b : ℕ) → lookup (at b) es ≡ None → (q : ℕ) → count_of nat_cmp (merged (es ++ (b, 1) ∷ []) rest) q ≡ cond (at b q) 1 (count_of nat_cmp (merged es rest) q)
count_push es rest b none q = grind (arith, nat_tests, count-merged (es ++ (b, 1) ∷ []) rest q, lookup_push b q 1 es none, at b q, count-merged es rest q, at q)

pub total_push : (es rest : List (ℕ × ℕ)) (b : ℕ) → AreParts es rest → lookup (at b) es ≡ None → count_of nat_cmp rest b ≡ 0 → total (merged (es ++ (b, 1) ∷ []) rest) ≡ total (merged es rest) + 1
total_push es rest b p none zeros =
    let sums : total (es ++ (b, 1) ∷ []) ≡ total es + 1 = ap sum (map-append (λ (e : ℕ × ℕ). e.1) es ((b, 1) ∷ [])) ∙ sum_by_push (λ (x : ℕ). x) (values_of es) 1 in
    omega (arith, sums, total-merged es rest p, total-merged (es ++ (b, 1) ∷ []) rest (parts_push es rest b p none zeros))

-- a count of the table changes
pub parts_behind : (es rest new : List (ℕ × ℕ)) (b : ℕ) → AreParts es rest → lookup (at b) es ≡ None → AreCounts nat_cmp new → ((q : ℕ) → at b q ≡ false → count_of nat_cmp new q ≡ count_of nat_cmp rest q) → total new ≤ 2 ^ 62 → AreParts es new
parts_behind es rest new b p none counts others room = grind (arith, nat_tests, p.distinct, p.counted, at, same_buffer, p.apart)

pub count_changed : (es rest new : List (ℕ × ℕ)) (b w : ℕ) → lookup (at b) es ≡ None → count_of nat_cmp new b ≡ w → ((q : ℕ) → at b q ≡ false → count_of nat_cmp new q ≡ count_of nat_cmp rest q) → (q : ℕ) → count_of nat_cmp (merged es new) q ≡ cond (at b q) w (count_of nat_cmp (merged es rest) q)
count_changed es rest new b w none here others q = grind (arith, nat_tests, at b q, same_buffer, count_behind es new b none, count-merged es new q, at q, count-merged es rest q)

nothing_distinct : IsDistinct (eq_by_cmp nat_cmp) []
unfolding IsDistinct
nothing_distinct = tt

pub no_parts : (es rest : List (ℕ × ℕ)) → es ≡ [] → rest ≡ [] → AreCounts nat_cmp rest → AreParts es rest
no_parts es rest e r counts = grind (arith, nat_tests, nothing_distinct)

-- as many entries as the sum of the counts, at the most
pub length_total : (es : List (ℕ × ℕ)) → All (λ n. 1 ≤ n) (values_of es) → length es ≤ total es
length_total [] a = omega arith
length_total (e ∷ es) a =
    let first : 1 ≤ e.1 = All-head (λ n. 1 ≤ n) e.1 (values_of es) a in
    let more : total (e ∷ es) ≡ e.1 + total es = sum_by-cons (λ (x : ℕ). x) e.1 (values_of es) in
    omega (arith, first, more, length_total es (All-tail (λ n. 1 ≤ n) e.1 (values_of es) a))

-- ---- once more and once less

module _ (es rest : List (ℕ × ℕ)) (b : ℕ) where
  pub count_le_total : count_of nat_cmp (merged es rest) b ≤ total (merged es rest)
  count_le_total = lookup-le-sum (at b) (merged es rest)

  module _ (v : ℕ) (found : lookup (at b) es ≡ Some v) where
    pub more_set : (q : ℕ) → count_of nat_cmp (merged (set_value (at b) es (v + 1)) rest) q ≡ count_of nat_cmp (merged es rest) q + cond (nat_eq b q) 1 0
    more_set = one_more_by (count_of nat_cmp (merged es rest)) (count_of nat_cmp (merged (set_value (at b) es (v + 1)) rest)) b (v + 1) (ap (λ (n : ℕ). n + 1) (sym (count_here es rest b v found))) (count_set es rest b v (v + 1) found)

    pub total_more_set : AreParts es rest → total (merged (set_value (at b) es (v + 1)) rest) ≡ total (merged es rest) + 1
    total_more_set p = let l : 1 ≤ v + 1 = omega arith in omega (arith, total_set es rest b v (v + 1) p found l)

    pub less_set : 1 ≤ v → (q : ℕ) → count_of nat_cmp (merged (set_value (at b) es (v - 1)) rest) q + cond (nat_eq b q) 1 0 ≡ count_of nat_cmp (merged es rest) q
    less_set l = one_less_by (count_of nat_cmp (merged es rest)) (count_of nat_cmp (merged (set_value (at b) es (v - 1)) rest)) b (v - 1) (omega (arith, l, count_here es rest b v found)) (count_set es rest b v (v - 1) found)

    pub total_less_set : AreParts es rest → 2 ≤ v → total (merged (set_value (at b) es (v - 1)) rest) + 1 ≡ total (merged es rest)
    total_less_set p l = let low : 1 ≤ v - 1 = omega (arith, l) in omega (arith, l, total_set es rest b v (v - 1) p found low)

    pub less_free : AreParts es rest → v ≡ 1 → (q : ℕ) → count_of nat_cmp (merged (remove_entry (at b) es) rest) q + cond (nat_eq b q) 1 0 ≡ count_of nat_cmp (merged es rest) q
    less_free p one = one_less_by (count_of nat_cmp (merged es rest)) (count_of nat_cmp (merged (remove_entry (at b) es) rest)) b 0 (omega (arith, one, count_here es rest b v found)) (count_free es rest b v p found)

    pub total_less_free : AreParts es rest → v ≡ 1 → total (merged (remove_entry (at b) es) rest) + 1 ≡ total (merged es rest)
    total_less_free p one = omega (arith, one, total_free es rest b v p found)

  module _ (none : lookup (at b) es ≡ None) where
    pub more_push : count_of nat_cmp rest b ≡ 0 → (q : ℕ) → count_of nat_cmp (merged (es ++ (b, 1) ∷ []) rest) q ≡ count_of nat_cmp (merged es rest) q + cond (nat_eq b q) 1 0
    more_push zeros = one_more_by (count_of nat_cmp (merged es rest)) (count_of nat_cmp (merged (es ++ (b, 1) ∷ []) rest)) b 1 (omega (arith, zeros, count_behind es rest b none)) (count_push es rest b none)

    module _ (new : List (ℕ × ℕ)) (others : (q : ℕ) → at b q ≡ false → count_of nat_cmp new q ≡ count_of nat_cmp rest q) where
      pub more_behind : count_of nat_cmp new b ≡ count_of nat_cmp rest b + 1 → (q : ℕ) → count_of nat_cmp (merged es new) q ≡ count_of nat_cmp (merged es rest) q + cond (nat_eq b q) 1 0
      more_behind here = one_more_by (count_of nat_cmp (merged es rest)) (count_of nat_cmp (merged es new)) b (count_of nat_cmp new b) (omega (arith, here, count_behind es rest b none)) (count_changed es rest new b (count_of nat_cmp new b) none refl others)

      pub less_behind : count_of nat_cmp new b + 1 ≡ count_of nat_cmp rest b → (q : ℕ) → count_of nat_cmp (merged es new) q + cond (nat_eq b q) 1 0 ≡ count_of nat_cmp (merged es rest) q
      less_behind here = one_less_by (count_of nat_cmp (merged es rest)) (count_of nat_cmp (merged es new)) b (count_of nat_cmp new b) (omega (arith, here, count_behind es rest b none)) (count_changed es rest new b (count_of nat_cmp new b) none refl others)
