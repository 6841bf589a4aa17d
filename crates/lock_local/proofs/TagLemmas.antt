-- Tags of locks in their order.
use Rattle.std.proofs.lemmas.Bool.Decides.{nat_tests}
use Rattle.lock_local.proofs.Base.{[], All, All-cons, All-get_or, All-head, All-nil, All-tail, All-weaker, ap, arith, Bool, comes_before, cond, count_by, false, false≢true, get_or, insert, is_tag, IsRising, length, List, list_any, list_any_none, Lock, LockTag, Mode, not, refl, remove, same_lock, subst, suc, sum_by-cons, sym, true, true≢false, zero, ℕ, ◌&&◌, ◌<◌, ◌||◌, ◌∙◌, ◌∷◌, ◌≡◌}
use Rattle.lock_local.proofs.OrderLemmas.{comes_after, after_both, later_not_before, order_other, other_lock_by, other_lock, before_lock}

module _ {X : Type 0} (p : X → Bool) where
  or_swap : (a b c : Bool) → (a || (b || c)) ≡ (b || (a || c))
  or_swap v0 v1 c = grind (arith, nat_tests)

  pub any-insert : (xs : List X) (i : ℕ) (y : X) → list_any p (insert xs i y) ≡ (p y || list_any p xs)
  any-insert [] zero y = refl
  any-insert [] (suc i) y = refl
  any-insert (x ∷ xs) zero y = refl
  any-insert (x ∷ xs) (suc i) y = ap (λ b. p x || b) (any-insert xs i y) ∙ or_swap (p x) (p y) (list_any p xs)

  pub any-remove : (xs : List X) (i : ℕ) (d : X) → p (get_or xs i d) ≡ false → list_any p (remove xs i) ≡ list_any p xs
  any-remove [] zero d h = refl
  any-remove [] (suc i) d h = refl
  any-remove (x ∷ xs) zero d h = sym (ap (λ b. b || list_any p xs) h)
  any-remove (x ∷ xs) (suc i) d h = ap (λ b. p x || b) (any-remove xs i d h)

  count_nothing : (xs : List X) → All (λ x. p x ≡ false) xs → count_by p xs ≡ 0
  count_nothing [] h = refl
  count_nothing (x ∷ xs) h = grind (arith, nat_tests, All-head (λ y. p y ≡ false) x xs h, All-tail (λ y. p y ≡ false) x xs h, count_nothing xs (All-tail (λ y. p y ≡ false) x xs h), sum_by-cons (λ y. cond (p y) 1 0) x xs)

  pub count_first : (x : X) (xs : List X) → p x ≡ true → count_by p (x ∷ xs) ≡ suc (count_by p xs)
  count_first x xs h = grind (arith, nat_tests, sum_by-cons (λ y. cond (p y) 1 0) x xs)

  pub count_zero : (x : X) (xs : List X) → p x ≡ false → All (λ y. p y ≡ false) xs → count_by p (x ∷ xs) ≡ 0
  count_zero x xs h k = count_nothing (x ∷ xs) (All-cons (λ y. p y ≡ false) x xs h k)

module _ {X : Type 0} (P : X → Type 0) where
  pub All-insert : (xs : List X) (i : ℕ) (y : X) → P y → All P xs → All P (insert xs i y)
  All-insert [] zero y h a = All-cons P y [] h (All-nil P)
  All-insert [] (suc i) y h a = All-cons P y [] h (All-nil P)
  All-insert (x ∷ xs) zero y h a = All-cons P y (x ∷ xs) h a
  All-insert (x ∷ xs) (suc i) y h a = All-cons P x (insert xs i y) (All-head P x xs a) (All-insert xs i y h (All-tail P x xs a))

  pub All-remove : (xs : List X) (i : ℕ) → All P xs → All P (remove xs i)
  All-remove [] zero a = a
  All-remove [] (suc i) a = a
  All-remove (x ∷ xs) zero a = All-tail P x xs a
  All-remove (x ∷ xs) (suc i) a = All-cons P x (remove xs i) (All-head P x xs a) (All-remove xs i (All-tail P x xs a))

-- that a tag comes before another
abbrev pub TagBefore : LockTag → LockTag → Type 0
TagBefore t u = comes_before t.object t.mode u.object u.mode ≡ true

-- a tag as a lock that nobody holds
abbrev bare : LockTag → Lock
bare t = record { object = t.object; mode = t.mode; owners = [] }

abbrev pub sooner : ℕ → Mode → LockTag → Bool
sooner o m t = comes_before t.object t.mode o m

abbrev pub new_tag : ℕ → Mode → LockTag
new_tag o m = record { object = o; mode = m }

pub IsRising-insert : (o : ℕ) (m : Mode) (ts : List LockTag) → IsRising ts → list_any (is_tag o m) ts ≡ false → IsRising (insert ts (count_by (sooner o m) ts) (new_tag o m))
IsRising-insert o m [] h none = (All-nil (TagBefore (new_tag o m)), tt)
IsRising-insert o m (t ∷ ts) h none = by_order (IsRising-insert o m ts h.1 none_there) (sooner o m t) refl
  where
    not_here : is_tag o m t ≡ false
    not_here = first_none (is_tag o m t) (list_any (is_tag o m) ts) none
      where
        first_none : (a b : Bool) → (a || b) ≡ false → a ≡ false
        first_none true b e = absurd (true≢false e)
        first_none false b e = refl

    none_there : list_any (is_tag o m) ts ≡ false
    none_there = second_none (is_tag o m t) (list_any (is_tag o m) ts) none
      where
        second_none : (a b : Bool) → (a || b) ≡ false → b ≡ false
        second_none true b e = absurd (true≢false e)
        second_none false b e = e

    by_order : IsRising (insert ts (count_by (sooner o m) ts) (new_tag o m)) → (b : Bool) → sooner o m t ≡ b → IsRising (insert (t ∷ ts) (count_by (sooner o m) (t ∷ ts)) (new_tag o m))
    by_order behind true e =
        let all : All (TagBefore t) (insert ts (count_by (sooner o m) ts) (new_tag o m)) = All-insert (TagBefore t) ts (count_by (sooner o m) ts) (new_tag o m) e h.0 in
        subst (λ n. IsRising (insert (t ∷ ts) n (new_tag o m))) (sym (count_first (sooner o m) t ts e)) (all, behind)
    by_order behind false e =
        let after : comes_before o m t.object t.mode ≡ true = comes_after (bare t) o m e not_here in
        let all : All (TagBefore (new_tag o m)) ts = All-weaker (TagBefore t) (TagBefore (new_tag o m)) (λ u b. after_both (bare t) (bare u) o m after b) ts h.0 in
        let none_sooner : All (λ u. sooner o m u ≡ false) ts = All-weaker (TagBefore (new_tag o m)) (λ u. sooner o m u ≡ false) (λ u b. later_not_before u.object u.mode o m b) ts all in
        subst (λ n. IsRising (insert (t ∷ ts) n (new_tag o m))) (sym (count_zero (sooner o m) t ts e none_sooner)) (All-cons (TagBefore (new_tag o m)) t ts after all, h)

pub IsRising-remove : (ts : List LockTag) (i : ℕ) → IsRising ts → IsRising (remove ts i)
IsRising-remove [] zero h = h
IsRising-remove [] (suc i) h = h
IsRising-remove (t ∷ ts) zero h = h.1
IsRising-remove (t ∷ ts) (suc i) h = (All-remove (TagBefore t) ts i h.0, IsRising-remove ts i h.1)

-- a lock whose tag stands behind a tag comes after it
pub behind_tag : (o : ℕ) (m : Mode) (t : LockTag) (ts : List LockTag) → All (TagBefore t) ts → list_any (is_tag o m) ts ≡ true → comes_before t.object t.mode o m ≡ true
behind_tag o m t [] h e = absurd (false≢true e)
behind_tag o m t (u ∷ ts) h e = grind (arith, nat_tests, All-tail (TagBefore t) u ts h, behind_tag o m t ts (All-tail (TagBefore t) u ts h), All-head (TagBefore t) u ts h)

-- the tag of one lock isn't that of another
pub other_tag : (o : ℕ) (m : Mode) (a : ℕ) (n : Mode) (t : LockTag) → is_tag o m t ≡ true → same_lock o m a n ≡ false → is_tag a n t ≡ false
other_tag o m a n t e f = other_lock_by t.object t.mode o m a n e f

-- a tag that is taken out stands nowhere else
pub taken_out : (o : ℕ) (m : Mode) (ts : List LockTag) (i : ℕ) (d : LockTag) → IsRising ts → i < length ts → is_tag o m (get_or ts i d) ≡ true → list_any (is_tag o m) (remove ts i) ≡ false
taken_out o m [] i d h l e = absurd (omega (arith, l))
taken_out o m (t ∷ ts) zero d h l e = list_any_none (is_tag o m) ts (All-weaker (TagBefore t) (λ u. is_tag o m u ≡ false) (λ u b. other_lock (bare t) (bare u) o m b e) ts h.0)
taken_out o m (t ∷ ts) (suc i) d h l e = grind (arith, nat_tests, t.object, t.mode, order_other t.object t.mode (get_or ts i d).object (get_or ts i d).mode o m (All-get_or (TagBefore t) ts i d (omega (arith, l)) h.0) e, All-get_or (TagBefore t) ts i d (omega (arith, l)) h.0, h.0, before_lock, bare t, taken_out o m ts i d h.1 (omega (arith, l)) e, h.1)

-- the tags that are left without that of one lock
pub untagged : (o : ℕ) (m : Mode) (ts us : List LockTag) → list_any (is_tag o m) us ≡ false → ((a : ℕ) (n : Mode) → same_lock o m a n ≡ false → list_any (is_tag a n) us ≡ list_any (is_tag a n) ts) → (a : ℕ) (n : Mode) → list_any (is_tag a n) us ≡ (not (same_lock o m a n) && list_any (is_tag a n) ts)
untagged o m ts us gone kept a n = grind (arith, nat_tests)
