-- Entries in the order of their keys: what is found among them, how many they are, and what they sum up to.
use Rattle.std.proofs.Common.{◌≡◌, ℕ, suc, ◌+◌, ◌≤◌, Bool, true, false, cond, List, [], ◌∷◌, length, Option, Some, None, refl, sym, ap, ◌∙◌, arith}
use Rattle.std.specs.declared.cmp.Ordering.{Ordering}
use Rattle.std.specs.declared.cmp.Ordering.TheVariants.{Less, Equal, Greater}
use Rattle.std.specs.Prelude.{All}
use Rattle.std.specs.Cmp.{IsEquivalence, IsTotalOrder}
use Rattle.std.specs.Ordering.{eq_by_cmp, match_ordering, ordering_reverse, is_eq}
use Rattle.std.specs.BTreeMap.{is_at, insert_entry}
use Rattle.std.specs.List.{AllByRecursion, IsDistinct}
use Rattle.std.specs.List.Sorted.{IsStrictlySortedBy, IsPermutation}
use Rattle.std.specs.HashMap.{HashMap, IsUnique, PutsEntry, get}
use Rattle.std.specs.Map.{keys_of, values_of, lookup, set_value, remove_entry}
use Rattle.std.specs.Option.{is_some, unwrap_or, option_map}
use Rattle.std.proofs.lemmas.Bool.{true≢false}
use Rattle.std.proofs.lemmas.Cmp.{eq_by_cmp_equiv}
use Rattle.std.proofs.lemmas.List.Elements.{All-head, All-tail}
use Rattle.std.proofs.lemmas.List.Sums.{sum_by-cons}
use Rattle.std.proofs.lemmas.Map.Entries.{sum_by-insert_entry, sum_by-set_value, sum_by-remove_entry, sum_by_values_permutation, sum_by_puts_entry}
use Rattle.std.proofs.lemmas.Map.Keys.{IsDistinct-head, IsDistinct-tail}
use Rattle.std.proofs.lemmas.Map.Views.{All-values-insert_entry}
use Rattle.counts.specs.Counts.{in_order, count_of, total}

crossed : {X : Type 0} (s t : Bool) (x y z : X) → (s ≡ true → t ≡ false) → cond t y (cond s x z) ≡ cond s x (cond t y z)
crossed true true x y z h = absurd (true≢false (h refl))
crossed true false x y z h = refl
crossed false t x y z h = refl

-- writing what is there changes nothing
pub set_same : {K X : Type 0} (test : K → Bool) (es : List (K × X)) (v : X) → lookup test es ≡ Some v → set_value test es v ≡ es
set_same test [] v found = refl
set_same {K} {X} test (e ∷ es) v found = by (test e.0) found (set_same test es v)
  where
    by : (b : Bool) → cond b (Some e.1) (lookup test es) ≡ Some v → (lookup test es ≡ Some v → set_value test es v ≡ es) → cond b ((e.0, v) ∷ es) (e ∷ set_value test es v) ≡ e ∷ es
    by true here later = let is : e.1 ≡ v = cc in λ i. (e.0, sym is i) ∷ es
    by false there later = ap (λ fs. e ∷ fs) (later there)

module _ {K : Type 0} {cmp : K → K → Ordering} (order : IsTotalOrder cmp) where
  laws : IsEquivalence (eq_by_cmp cmp)
  laws = eq_by_cmp_equiv order

  -- ---- an entry that goes to its place

  lookup-insert_entry : (q k : K) (n : ℕ) (es : List (K × ℕ)) → lookup (is_at (cmp q)) (insert_entry cmp es k n) ≡ cond (is_at (cmp q) k) (Some n) (lookup (is_at (cmp q)) es)
  lookup-insert_entry q k n [] = refl
  lookup-insert_entry q k n (e ∷ es) = by (cmp k e.0) refl (lookup-insert_entry q k n es)
    where
      twice : (b : Bool) (x y z : Option ℕ) → cond b x z ≡ cond b x (cond b y z)
      twice true x y z = refl
      twice false x y z = refl

      by : (r : Ordering) → cmp k e.0 ≡ r → lookup (is_at (cmp q)) (insert_entry cmp es k n) ≡ cond (is_at (cmp q) k) (Some n) (lookup (is_at (cmp q)) es)
          → lookup (is_at (cmp q)) (match_ordering r ((k, n) ∷ e ∷ es) ((e.0, n) ∷ es) (e ∷ insert_entry cmp es k n)) ≡ cond (is_at (cmp q) k) (Some n) (cond (is_at (cmp q) e.0) (Some e.1) (lookup (is_at (cmp q)) es))
      by Less p later = refl
      by Equal p later =
          let same : is_at (cmp q) e.0 ≡ is_at (cmp q) k = laws.symm q e.0 ∙ sym (laws.congr k e.0 q (ap is_eq p)) ∙ laws.symm k q in
          twice (is_at (cmp q) e.0) (Some n) (Some e.1) (lookup (is_at (cmp q)) es) ∙ ap (λ b. cond b (Some n) (cond (is_at (cmp q) e.0) (Some e.1) (lookup (is_at (cmp q)) es))) same
      by Greater p later =
          ap (cond (is_at (cmp q) e.0) (Some e.1)) later
          ∙ crossed (is_at (cmp q) k) (is_at (cmp q) e.0) (Some n) (Some e.1) (lookup (is_at (cmp q)) es) (λ h. laws.congr q k e.0 h ∙ ap is_eq p)

  above_insert : (x k : K) (n : ℕ) (es : List (K × ℕ)) → cmp x k ≡ Less → AllByRecursion (λ y. cmp x y ≡ Less) (keys_of es) → AllByRecursion (λ y. cmp x y ≡ Less) (keys_of (insert_entry cmp es k n))
  above_insert x k n [] p a = (p, tt)
  above_insert x k n (e ∷ es) p a = by (cmp k e.0) (above_insert x k n es p a.1)
    where
      by : (r : Ordering) → AllByRecursion (λ y. cmp x y ≡ Less) (keys_of (insert_entry cmp es k n))
          → AllByRecursion (λ y. cmp x y ≡ Less) (keys_of (match_ordering r ((k, n) ∷ e ∷ es) ((e.0, n) ∷ es) (e ∷ insert_entry cmp es k n)))
      by Less later = (p, a)
      by Equal later = a
      by Greater later = (a.0, later)

  above_more : (x z : K) (ks : List K) → cmp x z ≡ Less → AllByRecursion (λ y. cmp z y ≡ Less) ks → AllByRecursion (λ y. cmp x y ≡ Less) ks
  above_more x z [] p a = tt
  above_more x z (k ∷ ks) p a = (order.trans x z k p a.0, above_more x z ks p a.1)

  sorted_insert : (k : K) (n : ℕ) (es : List (K × ℕ)) → IsStrictlySortedBy cmp (keys_of es) → IsStrictlySortedBy cmp (keys_of (insert_entry cmp es k n))
  unfolding IsStrictlySortedBy
  sorted_insert k n [] s = (tt, tt)
  sorted_insert k n (e ∷ es) s = by (cmp k e.0) refl (sorted_insert k n es s.1)
    where
      by : (r : Ordering) → cmp k e.0 ≡ r → IsStrictlySortedBy cmp (keys_of (insert_entry cmp es k n))
          → IsStrictlySortedBy cmp (keys_of (match_ordering r ((k, n) ∷ e ∷ es) ((e.0, n) ∷ es) (e ∷ insert_entry cmp es k n)))
      by Less p later = ((p, above_more k e.0 (keys_of es) p s.0), s)
      by Equal p later = s
      by Greater p later = (above_insert e.0 k n es (order.antisymm e.0 k ∙ ap ordering_reverse p) s.0, later)

  length_insert : (k : K) (n : ℕ) (es : List (K × ℕ)) → lookup (is_at (cmp k)) es ≡ None → length (insert_entry cmp es k n) ≡ length es + 1
  length_insert k n [] h = refl
  length_insert k n (e ∷ es) h = by (cmp k e.0) h (length_insert k n es)
    where
      by : (r : Ordering) → cond (is_eq r) (Some e.1) (lookup (is_at (cmp k)) es) ≡ None → (lookup (is_at (cmp k)) es ≡ None → length (insert_entry cmp es k n) ≡ length es + 1)
          → length (match_ordering r ((k, n) ∷ e ∷ es) ((e.0, n) ∷ es) (e ∷ insert_entry cmp es k n)) ≡ suc (length es) + 1
      by Less g later = omega arith
      by Equal g later = absurd (true≢false (ap is_some g))
      by Greater g later = omega (arith, later g)

  -- ---- all entries in order

  -- the keys rise
  pub sorted_in_order : (es : List (K × ℕ)) → IsStrictlySortedBy cmp (keys_of (in_order cmp es))
  unfolding IsStrictlySortedBy
  sorted_in_order [] = tt
  sorted_in_order (e ∷ es) = sorted_insert e.0 e.1 (in_order cmp es) (sorted_in_order es)

  module _ {eq : K → K → Bool} (same : (x y : K) → eq x y ≡ is_eq (cmp x y)) where
    -- a search finds the same
    pub lookup-in_order : (q : K) (es : List (K × ℕ)) → lookup (is_at (cmp q)) (in_order cmp es) ≡ lookup (eq q) es
    lookup-in_order q [] = refl
    lookup-in_order q (e ∷ es) =
        lookup-insert_entry q e.0 e.1 (in_order cmp es)
        ∙ ap (λ b. cond b (Some e.1) (lookup (is_at (cmp q)) (in_order cmp es))) (sym (same q e.0))
        ∙ ap (cond (eq q e.0) (Some e.1)) (lookup-in_order q es)

    -- a key that differs from the others is not found among them
    fresh : (e : K × ℕ) (es : List (K × ℕ)) → IsDistinct eq (keys_of (e ∷ es)) → lookup (is_at (cmp e.0)) (in_order cmp es) ≡ None
    fresh e es different = lookup-in_order e.0 es ∙ none es (IsDistinct-head eq e.0 (keys_of es) different)
      where
        none : (fs : List (K × ℕ)) → AllByRecursion (λ y. eq e.0 y ≡ false) (keys_of fs) → lookup (eq e.0) fs ≡ None
        none [] a = refl
        none (f ∷ fs) a = ap (λ b. cond b (Some f.1) (lookup (eq e.0) fs)) a.0 ∙ none fs a.1

    -- there are as many
    pub length-in_order : (es : List (K × ℕ)) → IsDistinct eq (keys_of es) → length (in_order cmp es) ≡ length es
    length-in_order [] different = refl
    length-in_order (e ∷ es) different =
        let later : length (in_order cmp es) ≡ length es = length-in_order es (IsDistinct-tail eq e.0 (keys_of es) different) in
        omega (arith, length_insert e.0 e.1 (in_order cmp es) (fresh e es different), later)

    -- they sum up to the same
    pub total-in_order : (es : List (K × ℕ)) → IsDistinct eq (keys_of es) → total (in_order cmp es) ≡ total es
    total-in_order [] different = refl
    total-in_order (e ∷ es) different =
        let none : unwrap_or (option_map (λ (x : ℕ). x) (lookup (is_at (cmp e.0)) (in_order cmp es))) 0 ≡ 0 = ap (λ o. unwrap_or (option_map (λ (x : ℕ). x) o) 0) (fresh e es different) in
        let later : total (in_order cmp es) ≡ total es = total-in_order es (IsDistinct-tail eq e.0 (keys_of es) different) in
        let sums : total (insert_entry cmp (in_order cmp es) e.0 e.1) + unwrap_or (option_map (λ (x : ℕ). x) (lookup (is_at (cmp e.0)) (in_order cmp es))) 0 ≡ total (in_order cmp es) + e.1 = sum_by-insert_entry (λ (x : ℕ). x) order (in_order cmp es) e.0 e.1 (sorted_in_order es) in
        omega (arith, none, later, sums, sum_by-cons (λ (x : ℕ). x) e.1 (values_of es))

    -- how often a key counts
    pub counted : (key : K) (es : List (K × ℕ)) (found : Option ℕ) → lookup (eq key) es ≡ found → count_of cmp (in_order cmp es) key ≡ unwrap_or found 0
    counted key es found h = ap (λ o. unwrap_or o 0) (lookup-in_order key es ∙ h)

    -- the other keys count as often where a search for them finds the same
    pub others : (key : K) (es fs : List (K × ℕ)) → ((q : K) → eq key q ≡ false → lookup (eq q) fs ≡ lookup (eq q) es) → (q : K) → is_at (cmp key) q ≡ false → count_of cmp (in_order cmp fs) q ≡ count_of cmp (in_order cmp es) q
    others key es fs found q apart = counted q fs (lookup (eq q) es) (found q (same key q ∙ apart)) ∙ sym (counted q es (lookup (eq q) es) refl)

    -- the sum where one count has changed
    pub total-set : (key : K) (es fs : List (K × ℕ)) (v w : ℕ) → IsDistinct eq (keys_of es) → IsDistinct eq (keys_of fs) → lookup (eq key) es ≡ Some v → fs ≡ set_value (eq key) es w → total (in_order cmp fs) + v ≡ total (in_order cmp es) + w
    total-set key es fs v w different different' found set =
        let sums : total (set_value (eq key) es w) + v ≡ total es + w = sum_by-set_value (λ (x : ℕ). x) (eq key) es v w found in
        omega (arith, total-in_order es different, total-in_order fs different', ap (λ gs. total gs) set, sums)

    -- the sum where an entry went
    pub total-removed : (key : K) (es fs : List (K × ℕ)) (v : ℕ) → IsDistinct eq (keys_of es) → IsDistinct eq (keys_of fs) → lookup (eq key) es ≡ Some v → IsPermutation (remove_entry (eq key) es) fs → total (in_order cmp fs) + v ≡ total (in_order cmp es)
    total-removed key es fs v different different' found left =
        let moved : total fs ≡ total (remove_entry (eq key) es) = sum_by_values_permutation (λ (x : ℕ). x) (remove_entry (eq key) es) fs left in
        let sums : total (remove_entry (eq key) es) + unwrap_or (option_map (λ (x : ℕ). x) (lookup (eq key) es)) 0 ≡ total es = sum_by-remove_entry (λ (x : ℕ). x) (eq key) es in
        let gone : unwrap_or (option_map (λ (x : ℕ). x) (lookup (eq key) es)) 0 ≡ v = ap (λ o. unwrap_or (option_map (λ (x : ℕ). x) o) 0) found in
        omega (arith, total-in_order es different, total-in_order fs different', moved, sums, gone)

    -- the sum where a key is new
    pub total-put : {S : Type 0} (m n : HashMap K ℕ S) (key : K) (v : ℕ) (old : Option ℕ) → IsUnique eq m → IsUnique eq n → old ≡ get eq m key → get eq m key ≡ None → PutsEntry eq m n key v old → total (in_order cmp n.entries) ≡ total (in_order cmp m.entries) + v
    total-put m n key v old different different' was none puts =
        let sums : total n.entries + unwrap_or (option_map (λ (x : ℕ). x) old) 0 ≡ total m.entries + v = sum_by_puts_entry (λ (x : ℕ). x) eq m n key v old was puts in
        let nothing : unwrap_or (option_map (λ (x : ℕ). x) old) 0 ≡ 0 = ap (λ o. unwrap_or (option_map (λ (x : ℕ). x) o) 0) (was ∙ none) in
        omega (arith, total-in_order m.entries different, total-in_order n.entries different', sums, nothing)

-- what holds of each count holds of each in order
pub all_in_order : {K : Type 0} (cmp : K → K → Ordering) (es : List (K × ℕ)) → All (λ n. 1 ≤ n) (values_of es) → All (λ n. 1 ≤ n) (values_of (in_order cmp es))
all_in_order cmp [] a = a
all_in_order cmp (e ∷ es) a = All-values-insert_entry cmp e.0 e.1 (λ n. 1 ≤ n) (in_order cmp es) (all_in_order cmp es (All-tail (λ n. 1 ≤ n) e.1 (values_of es) a)) (All-head (λ n. 1 ≤ n) e.1 (values_of es) a)
