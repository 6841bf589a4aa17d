-- Holdings in order: which they are, and that they are told by what is held alone.
use Rattle.lock_shared.proofs.Base.{◌≡◌, ℕ, Bool, true, false, ◌&&◌, ◌||◌, cond, nat_eq, nat_lt, List, [], ◌∷◌, refl, ap, sym, subst, ◌∙◌, arith, All, true≢false, nat_tests, All-nil, All-cons, All-head, All-tail, All-weaker, list_any_none}
use Rattle.lock_shared.proofs.Words.{Mode, AccessShareLock, RowShareLock, RowExclusiveLock, ShareUpdateExclusiveLock, ShareLock, ShareRowExclusiveLock, ExclusiveLock, AccessExclusiveLock, mode_number, Holding, is_holding, holds, ranks_before, IsRanked, placed, ranked}
use Rattle.lock_shared.proofs.HoldingLemmas.{holding_parts, is_itself}

-- two modes of one number are one
mode_at : ℕ → Mode
mode_at n =
    cond (nat_eq n 1) AccessShareLock
    (cond (nat_eq n 2) RowShareLock
    (cond (nat_eq n 3) RowExclusiveLock
    (cond (nat_eq n 4) ShareUpdateExclusiveLock
    (cond (nat_eq n 5) ShareLock
    (cond (nat_eq n 6) ShareRowExclusiveLock
    (cond (nat_eq n 7) ExclusiveLock AccessExclusiveLock))))))

mode_again : (m : Mode) → mode_at (mode_number m) ≡ m
unfolding mode_at
mode_again x0 = grind (arith, nat_tests)

pub same_mode : (m n : Mode) → mode_number m ≡ mode_number n → m ≡ n
same_mode m n e = sym (mode_again m) ∙ ap mode_at e ∙ mode_again n

-- the order and the test on numbers
abbrev before : ℕ → ℕ → ℕ → ℕ → ℕ → ℕ → Bool
before s o m t p n = nat_lt s t || (nat_eq s t && (nat_lt o p || (nat_eq o p && nat_lt m n)))

abbrev same : ℕ → ℕ → ℕ → ℕ → ℕ → ℕ → Bool
same s o m t p n = (nat_eq o p && nat_eq m n) && nat_eq s t

before_trans : (s o m t p n u q k : ℕ) → before s o m t p n ≡ true → before t p n u q k ≡ true → before s o m u q k ≡ true
before_trans s o m t p n u q k e f = grind (arith, nat_tests)

before_not_back : (s o m t p n : ℕ) → before s o m t p n ≡ true → before t p n s o m ≡ false
before_not_back s o m t p n e = grind (arith, nat_tests)

before_not_same : (s o m t p n : ℕ) → before s o m t p n ≡ true → same s o m t p n ≡ false
before_not_same s o m t p n e = grind (arith, nat_tests)

after_not_same : (s o m t p n : ℕ) → before t p n s o m ≡ true → same s o m t p n ≡ false
after_not_same s o m t p n e = grind (arith, nat_tests)

neither_same : (s o m t p n : ℕ) → before s o m t p n ≡ false → before t p n s o m ≡ false → (s ≡ t) × (o ≡ p) × (m ≡ n)
neither_same s o m t p n e f = (grind (arith, nat_tests), grind (arith, nat_tests), grind (arith, nat_tests))

-- that a holding comes before another
abbrev pub Ahead : Holding → Holding → Type 0
Ahead a b = ranks_before a b ≡ true

ahead_trans : (a b c : Holding) → Ahead a b → Ahead b c → Ahead a c
ahead_trans a b c e f = before_trans a.session a.object (mode_number a.mode) b.session b.object (mode_number b.mode) c.session c.object (mode_number c.mode) e f

ahead_not_back : (a b : Holding) → Ahead a b → ranks_before b a ≡ false
ahead_not_back a b e = before_not_back a.session a.object (mode_number a.mode) b.session b.object (mode_number b.mode) e

one_holding : (a b : Holding) → a.session ≡ b.session → a.object ≡ b.object → mode_number a.mode ≡ mode_number b.mode → a ≡ b
one_holding a b s o m = grind (arith, nat_tests, a.mode, a.session, b.object, same_mode a.mode b.mode m, b.mode)

neither_ahead : (a b : Holding) → ranks_before a b ≡ false → ranks_before b a ≡ false → a ≡ b
neither_ahead a b e f = grind (arith, nat_tests, neither_same a.session a.object (mode_number a.mode) b.session b.object (mode_number b.mode) e f, a.session, a.object, a.mode, b.session, b.object, b.mode, one_holding)

-- a test that a holding passes is passed by none behind it
none_behind : (h : Holding) (hs : List Holding) (o : ℕ) (m : Mode) (s : ℕ) → All (Ahead h) hs → is_holding o m s h ≡ true → holds hs o m s ≡ false
none_behind h hs o m s all e = grind (arith, nat_tests, holding_parts o m s h e, list_any_none, All-weaker, h.object, h.mode, h.session, holding_parts, one_holding, ahead_not_back)

-- what is so of a holding and of others is so of them all
placed_all : (P : Holding → Type 0) (h : Holding) (xs : List Holding) → P h → All P xs → All P (placed h xs)
placed_all P h [] a all = All-cons P h [] a (All-nil P)
placed_all P h (x ∷ xs) a all = grind (arith, nat_tests, placed_all P h xs a (All-tail P x xs all), All-tail P x xs all, placed h xs, placed, All-cons, All-head P x xs all)

pub ranked_all : (P : Holding → Type 0) (hs : List Holding) → All P hs → All P (ranked hs)
ranked_all P [] all = all
ranked_all P (h ∷ hs) all = placed_all P h (ranked hs) (All-head P h hs all) (ranked_all P hs (All-tail P h hs all))

placed_ranked : (h : Holding) (xs : List Holding) → IsRanked xs → IsRanked (placed h xs)
placed_ranked h [] r = (All-nil (Ahead h), tt)
placed_ranked h (x ∷ xs) r = by_first (ranks_before h x) refl (placed_ranked h xs r.1)
  where
    by_second : (t : Bool) → ranks_before x h ≡ t → IsRanked (placed h xs) → IsRanked (cond t (x ∷ placed h xs) (x ∷ xs))
    by_second true e rest = (placed_all (Ahead x) h xs e r.0, rest)
    by_second false e rest = r

    by_first : (t : Bool) → ranks_before h x ≡ t → IsRanked (placed h xs) → IsRanked (cond t (h ∷ x ∷ xs) (cond (ranks_before x h) (x ∷ placed h xs) (x ∷ xs)))
    by_first true e rest = (All-cons (Ahead h) x xs e (All-weaker (Ahead x) (Ahead h) (λ y a. ahead_trans h x y e a) xs r.0), r)
    by_first false e rest = by_second (ranks_before x h) refl rest

pub ranked_is_ranked : (hs : List Holding) → IsRanked (ranked hs)
ranked_is_ranked [] = tt
ranked_is_ranked (h ∷ hs) = placed_ranked h (ranked hs) (ranked_is_ranked hs)

-- what is held stays
or_swap : (a b c : Bool) → (b || (a || c)) ≡ (a || (b || c))
or_swap x0 x1 c = grind (arith, nat_tests)

or_twice : (a c : Bool) → (a || c) ≡ (a || (a || c))
or_twice x0 c = grind (arith, nat_tests)

placed_holds : (h : Holding) (xs : List Holding) (o : ℕ) (m : Mode) (s : ℕ) → holds (placed h xs) o m s ≡ holds (h ∷ xs) o m s
placed_holds h [] o m s = refl
placed_holds h (x ∷ xs) o m s = by_first (ranks_before h x) refl (placed_holds h xs o m s)
  where
    by_second : (t : Bool) → ranks_before h x ≡ false → ranks_before x h ≡ t → holds (placed h xs) o m s ≡ holds (h ∷ xs) o m s → holds (cond t (x ∷ placed h xs) (x ∷ xs)) o m s ≡ holds (h ∷ x ∷ xs) o m s
    by_second true e f rest = ap (λ b. is_holding o m s x || b) rest ∙ or_swap (is_holding o m s h) (is_holding o m s x) (holds xs o m s)
    by_second false e f rest =
        or_twice (is_holding o m s x) (holds xs o m s)
        ∙ ap (λ (z : Holding). is_holding o m s z || (is_holding o m s x || holds xs o m s)) (sym (neither_ahead h x e f))

    by_first : (t : Bool) → ranks_before h x ≡ t → holds (placed h xs) o m s ≡ holds (h ∷ xs) o m s → holds (cond t (h ∷ x ∷ xs) (cond (ranks_before x h) (x ∷ placed h xs) (x ∷ xs))) o m s ≡ holds (h ∷ x ∷ xs) o m s
    by_first true e rest = refl
    by_first false e rest = by_second (ranks_before x h) e refl rest

-- whatever is held is held in order
pub ranked_holds : (hs : List Holding) (o : ℕ) (m : Mode) (s : ℕ) → holds (ranked hs) o m s ≡ holds hs o m s
ranked_holds [] o m s = refl
ranked_holds (h ∷ hs) o m s = placed_holds h (ranked hs) o m s ∙ ap (λ b. is_holding o m s h || b) (ranked_holds hs o m s)

-- the two say the same of each lock
abbrev pub HoldSame : List Holding → List Holding → Type 0
HoldSame xs ys = (o : ℕ) (m : Mode) (s : ℕ) → holds xs o m s ≡ holds ys o m s

-- a holding among others in order
held_first : (x : Holding) (xs : List Holding) → holds (x ∷ xs) x.object x.mode x.session ≡ true
held_first x xs = ap (λ b. b || holds xs x.object x.mode x.session) (is_itself x)

held_nowhere_back : (h : Holding) (xs : List Holding) → All (Ahead h) xs → holds xs h.object h.mode h.session ≡ false
held_nowhere_back h xs all = none_behind h xs h.object h.mode h.session all (is_itself h)

-- where the first comes before all of a list in order, the list doesn't have it
not_ahead_of_all : (x y : Holding) (ys : List Holding) → Ahead x y → All (Ahead y) ys → holds (y ∷ ys) x.object x.mode x.session ≡ false
not_ahead_of_all x y ys a all = held_nowhere_back x (y ∷ ys) (All-cons (Ahead x) y ys a (All-weaker (Ahead y) (Ahead x) (λ z b. ahead_trans x y z a b) ys all))

firsts_same : (x y : Holding) (xs ys : List Holding) → IsRanked (x ∷ xs) → IsRanked (y ∷ ys) → HoldSame (x ∷ xs) (y ∷ ys) → x ≡ y
firsts_same x y xs ys r t same = grind (arith, nat_tests, held_first y ys, y.object, y.mode, y.session, not_ahead_of_all, r.0, neither_ahead, held_first x xs, x.object, x.mode, x.session, t.0)

rests_same : (x : Holding) (xs ys : List Holding) → All (Ahead x) xs → All (Ahead x) ys → HoldSame (x ∷ xs) (x ∷ ys) → HoldSame xs ys
rests_same x xs ys a b same o m s = grind (arith, nat_tests, holds xs o m s, holds, none_behind)

-- two lists in order that say the same are one
pub ranked_unique : (xs ys : List Holding) → IsRanked xs → IsRanked ys → HoldSame xs ys → xs ≡ ys
ranked_unique [] [] r t same = refl
ranked_unique [] (y ∷ ys) r t same = absurd (true≢false (sym (held_first y ys) ∙ sym (same y.object y.mode y.session)))
ranked_unique (x ∷ xs) [] r t same = absurd (true≢false (sym (held_first x xs) ∙ same x.object x.mode x.session))
ranked_unique (x ∷ xs) (y ∷ ys) r t same =
    let one : x ≡ y = firsts_same x y xs ys r t same in
    let ahead : All (Ahead x) ys = subst (λ (z : Holding). All (Ahead z) ys) (sym one) t.0 in
    let same_first : HoldSame (x ∷ xs) (x ∷ ys) = subst (λ (z : Holding). HoldSame (x ∷ xs) (z ∷ ys)) (sym one) same in
    ap (λ (zs : List Holding). x ∷ zs) (ranked_unique xs ys r.1 t.1 (rests_same x xs ys r.0 ahead same_first))
    ∙ ap (λ (z : Holding). z ∷ ys) one
