-- The order of locks, and what it tells of the one lock on an object in a mode.
use Rattle.lock_local.proofs.Base.{[], add-one, All, All-filter, All-get_or, All-map, All-set, All-weaker, ap, arith, Bool, comes_before, cond, drop, drop-cons, false, filter, get_or, has_owner, is_held, is_lock, IsInOrder, length, List, list_any_none, Lock, map, Mode, mode_number, nat_eq, nat_lt, nat_tests, same_lock, set, subst, suc, sym, true, zero, ℕ, ◌&&◌, ◌+◌, ◌<◌, ◌||◌, ◌∙◌, ◌∷◌, ◌≡◌}

-- the same on numbers
abbrev before : ℕ → ℕ → ℕ → ℕ → Bool
before a i b j = nat_lt a b || (nat_eq a b && nat_lt i j)

abbrev same : ℕ → ℕ → ℕ → ℕ → Bool
same a i b j = nat_eq a b && nat_eq i j

before_then_not : (a i b j c k : ℕ) → before a i b j ≡ true → same a i c k ≡ true → same b j c k ≡ false
before_then_not a i b j c k e f = grind (arith, nat_tests)

before_not_same : (a i b j : ℕ) → before a i b j ≡ true → same a i b j ≡ false
before_not_same a i b j e = grind (arith, nat_tests)

same_not_before : (a i b j : ℕ) → same a i b j ≡ true → before a i b j ≡ false
same_not_before a i b j e = grind (arith, nat_tests)

before_trans : (a i b j c k : ℕ) → before a i b j ≡ true → before b j c k ≡ true → before a i c k ≡ true
before_trans a i b j c k e f = grind (arith, nat_tests)

before_other : (a i b j c k : ℕ) → before a i b j ≡ true → same b j c k ≡ true → before a i c k ≡ true
before_other a i b j c k e f = grind (arith, nat_tests)

neither : (a i b j : ℕ) → before a i b j ≡ false → same a i b j ≡ false → before b j a i ≡ true
neither a i b j e f = grind (arith, nat_tests)

after_not_same : (a i b j : ℕ) → before b j a i ≡ true → same a i b j ≡ false
after_not_same a i b j e = grind (arith, nat_tests)

after_not_before : (a i b j : ℕ) → before b j a i ≡ true → before a i b j ≡ false
after_not_before a i b j e = grind (arith, nat_tests)

same_swapped : (a i b j : ℕ) → same a i b j ≡ same b j a i
same_swapped a i b j = grind (arith, nat_tests)

pub lock_swapped : (o : ℕ) (w : Mode) (o' : ℕ) (w' : Mode) → same_lock o w o' w' ≡ same_lock o' w' o w
lock_swapped o w o' w' = same_swapped o (mode_number w) o' (mode_number w')

same_itself : (a i : ℕ) → same a i a i ≡ true
same_itself a i = grind (arith, nat_tests)

pub lock_itself : (o : ℕ) (w : Mode) → same_lock o w o w ≡ true
lock_itself o w = same_itself o (mode_number w)

same_then_other : (a i b j c k : ℕ) → same a i b j ≡ true → same b j c k ≡ false → same a i c k ≡ false
same_then_other a i b j c k e f = grind (arith, nat_tests)

pub other_lock_by : (o : ℕ) (w : Mode) (o' : ℕ) (w' : Mode) (a : ℕ) (m : Mode) → same_lock o w o' w' ≡ true → same_lock o' w' a m ≡ false → same_lock o w a m ≡ false
other_lock_by o w o' w' a m e f = same_then_other o (mode_number w) o' (mode_number w') a (mode_number m) e f

pub later_not_before : (o : ℕ) (w : Mode) (o' : ℕ) (w' : Mode) → comes_before o' w' o w ≡ true → comes_before o w o' w' ≡ false
later_not_before o w o' w' e = after_not_before o (mode_number w) o' (mode_number w') e

pub order_other : (o : ℕ) (w : Mode) (o' : ℕ) (w' : Mode) (a : ℕ) (m : Mode) → comes_before o w o' w' ≡ true → same_lock o' w' a m ≡ true → comes_before o w a m ≡ true
order_other o w o' w' a m e f = before_other o (mode_number w) o' (mode_number w') a (mode_number m) e f

-- that a lock comes before another
abbrev pub Before : Lock → Lock → Type 0
Before l m = comes_before l.object l.mode m.object m.mode ≡ true

pub other_lock : (l m : Lock) (o : ℕ) (w : Mode) → Before l m → is_lock o w l ≡ true → is_lock o w m ≡ false
other_lock l m o w b e = before_then_not l.object (mode_number l.mode) m.object (mode_number m.mode) o (mode_number w) b e

pub before_lock : (l : Lock) (o : ℕ) (w : Mode) → comes_before l.object l.mode o w ≡ true → is_lock o w l ≡ false
before_lock l o w e = before_not_same l.object (mode_number l.mode) o (mode_number w) e

pub after_lock : (l : Lock) (o : ℕ) (w : Mode) → comes_before o w l.object l.mode ≡ true → is_lock o w l ≡ false
after_lock l o w e = after_not_same l.object (mode_number l.mode) o (mode_number w) e

pub lock_not_before : (l : Lock) (o : ℕ) (w : Mode) → is_lock o w l ≡ true → comes_before l.object l.mode o w ≡ false
lock_not_before l o w e = same_not_before l.object (mode_number l.mode) o (mode_number w) e

pub before_both : (l m : Lock) (o : ℕ) (w : Mode) → Before l m → comes_before m.object m.mode o w ≡ true → comes_before l.object l.mode o w ≡ true
before_both l m o w e f = before_trans l.object (mode_number l.mode) m.object (mode_number m.mode) o (mode_number w) e f

pub comes_after : (l : Lock) (o : ℕ) (w : Mode) → comes_before l.object l.mode o w ≡ false → is_lock o w l ≡ false → comes_before o w l.object l.mode ≡ true
comes_after l o w e f = neither l.object (mode_number l.mode) o (mode_number w) e f

pub after_both : (l m : Lock) (o : ℕ) (w : Mode) → comes_before o w l.object l.mode ≡ true → Before l m → comes_before o w m.object m.mode ≡ true
after_both l m o w e f = before_trans o (mode_number w) l.object (mode_number l.mode) m.object (mode_number m.mode) e f

-- a test of one lock, and whether some owner holds it
abbrev pub held_test : ℕ → Mode → Lock → Bool
held_test o w l = is_lock o w l && has_owner l

pub not_held : (l : Lock) (o : ℕ) (w : Mode) → is_lock o w l ≡ false → held_test o w l ≡ false
not_held l o w e = ap (λ b. b && has_owner l) e

pub none_behind : (l : Lock) (ls : List Lock) (o : ℕ) (w : Mode) → All (Before l) ls → is_lock o w l ≡ true → is_held ls o w ≡ false
none_behind l ls o w h e = grind (arith, nat_tests, All-weaker (Before l) (λ m. held_test o w m ≡ false) (λ m b. not_held m o w (other_lock l m o w b e)) ls h, list_any_none (held_test o w) ls (All-weaker (Before l) (λ m. held_test o w m ≡ false) (λ m b. not_held m o w (other_lock l m o w b e)) ls h))

or_none : (a b : Bool) → b ≡ false → (a || b) ≡ a
or_none v0 b e = grind (arith, nat_tests)

-- one lock is written over, with the same object and mode
pub is_held-set : (xs : List Lock) (i : ℕ) (d y : Lock) (o : ℕ) (w : Mode) → IsInOrder xs → i < length xs → y.object ≡ (get_or xs i d).object → y.mode ≡ (get_or xs i d).mode → is_held (set xs i y) o w ≡ cond (is_lock o w (get_or xs i d)) (has_owner y) (is_held xs o w)
is_held-set [] i d y o w h l a b = absurd (omega (arith, l))
is_held-set (x ∷ xs) zero d y o w h l a b = grind (arith, nat_tests, none_behind, or_none)
is_held-set (x ∷ xs) (suc i) d y o w h l a b = grind (arith, nat_tests, is_held-set xs i d y o w h.1 (omega (arith, l)) a b, All-get_or (Before x) xs i d (omega (arith, l)) h.0)

-- changes that keep the order
pub IsInOrder-set : (xs : List Lock) (i : ℕ) (d y : Lock) → IsInOrder xs → i < length xs → y.object ≡ (get_or xs i d).object → y.mode ≡ (get_or xs i d).mode → IsInOrder (set xs i y)
IsInOrder-set [] i d y h l a b = absurd (omega (arith, l))
IsInOrder-set (x ∷ xs) zero d y h l a b = grind (arith, nat_tests)
IsInOrder-set (x ∷ xs) (suc i) d y h l a b =
    let here : Before x (get_or xs i d) = All-get_or (Before x) xs i d (omega (arith, l)) h.0 in
    (All-set (Before x) xs i y (subst (λ (n : ℕ). comes_before x.object x.mode n y.mode ≡ true) (sym a) (subst (λ (k : Mode). comes_before x.object x.mode (get_or xs i d).object k ≡ true) (sym b) here)) h.0, IsInOrder-set xs i d y h.1 (omega (arith, l)) a b)

-- a change of a lock that keeps its object and its mode
pub record KeepsLock (f : Lock → Lock) : Type 0 where
  pub object : (l : Lock) → (f l).object ≡ l.object
  pub mode : (l : Lock) → (f l).mode ≡ l.mode

pub IsInOrder-map : (f : Lock → Lock) → KeepsLock f → (xs : List Lock) → IsInOrder xs → IsInOrder (map f xs)
IsInOrder-map f k [] h = tt
IsInOrder-map f k (x ∷ xs) h =
    (All-map (λ m. comes_before (f x).object (f x).mode m.object m.mode ≡ true) f xs (All-weaker (Before x) (λ m. comes_before (f x).object (f x).mode (f m).object (f m).mode ≡ true) (λ m b. moved m b) xs h.0), IsInOrder-map f k xs h.1)
  where
    moved : (m : Lock) → Before x m → comes_before (f x).object (f x).mode (f m).object (f m).mode ≡ true
    moved m b =
        ap (λ (n : ℕ). comes_before n (f x).mode (f m).object (f m).mode) (k.object x)
        ∙ ap (λ (n : Mode). comes_before x.object n (f m).object (f m).mode) (k.mode x)
        ∙ ap (λ (n : ℕ). comes_before x.object x.mode n (f m).mode) (k.object m)
        ∙ ap (λ (n : Mode). comes_before x.object x.mode m.object n) (k.mode m)
        ∙ b

pub IsInOrder-filter : (p : Lock → Bool) (xs : List Lock) → IsInOrder xs → IsInOrder (filter p xs)
IsInOrder-filter p [] h = tt
IsInOrder-filter p (x ∷ xs) h = grind (arith, nat_tests, IsInOrder-filter p xs h.1, All-filter p (Before x) xs h.0)

-- what stands behind a place
pub drop_more : {X : Type 0} (xs : List X) (i : ℕ) (d : X) → i < length xs → drop i xs ≡ get_or xs i d ∷ drop (i + 1) xs
drop_more xs i d l = rw (add-one, drop-cons xs i d)

pub all_behind : (xs : List Lock) (i : ℕ) (d : Lock) → IsInOrder xs → i < length xs → All (Before (get_or xs i d)) (drop (i + 1) xs)
all_behind [] i d h l = absurd (omega (arith, l))
all_behind (x ∷ xs) zero d h l = h.0
all_behind (x ∷ xs) (suc i) d h l = let k : All (Before (get_or xs i d)) (drop (i + 1) xs) = all_behind xs i d h.1 (omega (arith, l)) in rw add-one (rw add-one at k)
