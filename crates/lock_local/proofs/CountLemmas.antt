-- How often an owner holds a lock after a change.
use Rattle.lock_local.proofs.Base.{[], acquired, added, All, All-head, All-tail, ap, arith, Bool, comes_before, cond, count_if, count_of, counted_down, counted_up, eqb-true, false, filter, get_or, get_or_default, has_owner, HoldsBoth, HoldsNothing, HoldsOneLess, HoldsOneMore, is_lock, length, List, Lock, lowered, lt-ltb, map, Mode, nat_eq, nat_lt, nat_tests, new_lock, owner_count, OwnerCount, passed, passed_lock, refl, released, same_lock, set, StandsAt, sum_by, sum_by-cons, sum_by-set, sym, true, true≢false, without, ℕ, ◌&&◌, ◌+◌, ◌-◌, ◌<◌, ◌∙◌, ◌∷◌, ◌≡◌, ◌≢◌, ◌≤◌}
use Rattle.lock_local.proofs.OwnerLemmas.{Counted, is_owner, others, less_one}
use Rattle.lock_local.proofs.ChangeLemmas.{by_passing}

-- n where the test passes, else nothing
abbrev pub where_so : Bool → ℕ → ℕ
where_so b n = cond b n 0

pub so_sum : (b : Bool) (m n : ℕ) → where_so b (m + n) ≡ where_so b m + where_so b n
so_sum v0 m n = grind (arith, nat_tests)

so_both : (a b : Bool) (n : ℕ) → where_so a (where_so b n) ≡ where_so (a && b) n
so_both v0 b n = grind (arith, nat_tests)

-- the counts of one lock
pub owner_added : (owner n w : ℕ) (xs : List OwnerCount) → sum_by (count_if w) (added owner n xs) ≡ sum_by (count_if w) xs + where_so (nat_eq owner w) n
owner_added owner n w [] = omega (arith, sum_by-cons (count_if w) (record { owner = owner; count = n }) [])
owner_added owner n w (x ∷ xs) = by_test (owner_added owner n w xs) (is_owner owner x) refl
  where
    by_test : sum_by (count_if w) (added owner n xs) ≡ sum_by (count_if w) xs + where_so (nat_eq owner w) n → (t : Bool) → is_owner owner x ≡ t → sum_by (count_if w) (cond t (record { owner = x.owner; count = x.count + n } ∷ xs) (x ∷ added owner n xs)) ≡ sum_by (count_if w) (x ∷ xs) + where_so (nat_eq owner w) n
    by_test ih true e =
        let alike : where_so (nat_eq x.owner w) n ≡ where_so (nat_eq owner w) n = ap (λ (k : ℕ). where_so (nat_eq k w) n) (eqb-true x.owner owner e) in
        omega (arith, alike, so_sum (nat_eq x.owner w) x.count n, sum_by-cons (count_if w) (record { owner = x.owner; count = x.count + n }) xs, sum_by-cons (count_if w) x xs)
    by_test ih false e = omega (arith, ih, sum_by-cons (count_if w) x (added owner n xs), sum_by-cons (count_if w) x xs)

pub owner_lowered : (owner w : ℕ) (xs : List OwnerCount) → All Counted xs → 0 < sum_by (count_if owner) xs → sum_by (count_if w) (lowered owner xs) + where_so (nat_eq owner w) 1 ≡ sum_by (count_if w) xs
owner_lowered owner w [] h l = absurd (omega (arith, l))
owner_lowered owner w (x ∷ xs) h l = by_test (owner_lowered owner w xs (All-tail Counted x xs h)) (is_owner owner x) refl
  where
    one_less : (c : ℕ) (b : Bool) → 1 ≤ c → where_so b (c - 1) + where_so b 1 ≡ where_so b c
    one_less c true k = omega arith
    one_less c false k = refl

    by_count : is_owner owner x ≡ true → (t : Bool) → nat_eq x.count 1 ≡ t → sum_by (count_if w) (cond t xs (record { owner = x.owner; count = x.count - 1 } ∷ xs)) + where_so (nat_eq owner w) 1 ≡ sum_by (count_if w) (x ∷ xs)
    by_count e true f =
        let alike : where_so (nat_eq x.owner w) 1 ≡ where_so (nat_eq owner w) 1 = ap (λ (k : ℕ). where_so (nat_eq k w) 1) (eqb-true x.owner owner e) in
        let one : where_so (nat_eq x.owner w) x.count ≡ where_so (nat_eq x.owner w) 1 = ap (where_so (nat_eq x.owner w)) (eqb-true x.count 1 f) in
        omega (arith, alike, one, sum_by-cons (count_if w) x xs)
    by_count e false f =
        let alike : where_so (nat_eq x.owner w) 1 ≡ where_so (nat_eq owner w) 1 = ap (λ (k : ℕ). where_so (nat_eq k w) 1) (eqb-true x.owner owner e) in
        omega (arith, alike, one_less x.count (nat_eq x.owner w) (All-head Counted x xs h), sum_by-cons (count_if w) x xs, sum_by-cons (count_if w) (record { owner = x.owner; count = x.count - 1 }) xs)

    by_test : (0 < sum_by (count_if owner) xs → sum_by (count_if w) (lowered owner xs) + where_so (nat_eq owner w) 1 ≡ sum_by (count_if w) xs) → (t : Bool) → is_owner owner x ≡ t → sum_by (count_if w) (cond t (less_one x xs) (x ∷ lowered owner xs)) + where_so (nat_eq owner w) 1 ≡ sum_by (count_if w) (x ∷ xs)
    by_test ih true e = by_count e (nat_eq x.count 1) refl
    by_test ih false e =
        let none : count_if owner x ≡ 0 = ap (λ b. cond b x.count 0) e in
        omega (arith, ih (omega (arith, l, none, sum_by-cons (count_if owner) x xs)), sum_by-cons (count_if w) x (lowered owner xs), sum_by-cons (count_if w) x xs)

pub owner_others : (owner w : ℕ) (xs : List OwnerCount) → sum_by (count_if w) (others owner xs) ≡ cond (nat_eq owner w) 0 (sum_by (count_if w) xs)
owner_others owner w [] = grind (arith, nat_tests)
owner_others owner w (x ∷ xs) = grind (arith, nat_tests, owner_others owner w xs, others owner xs, others, x.count, x.owner, sum_by-cons (count_if w) x xs, sum_by-cons (count_if w) x (others owner xs))

pub owner_passed_count : (from to w : ℕ) (l : Lock) → owner_count w (passed_lock from to l) ≡ cond (nat_eq from w) 0 (owner_count w l) + where_so (nat_eq to w) (owner_count from l)
owner_passed_count from to w l = grind (arith, nat_tests, owner_added to (owner_count from l) w (without from l).owners, owner_others from w l.owners)

-- the counts of all locks
abbrev pub one_count : ℕ → Mode → ℕ → Lock → ℕ
one_count o m w l = cond (is_lock o m l) (owner_count w l) 0

pub same_as : (l : Lock) (o : ℕ) (m : Mode) (o' : ℕ) (m' : Mode) → is_lock o m l ≡ true → is_lock o' m' l ≡ same_lock o m o' m'
same_as l o m o' m' e = grind (arith, nat_tests)

pub count-acquired : (owner o : ℕ) (m : Mode) (o' : ℕ) (m' : Mode) (w : ℕ) (xs : List Lock) → count_of (acquired owner o m xs) o' m' w ≡ count_of xs o' m' w + where_so (same_lock o m o' m' && nat_eq owner w) 1
count-acquired owner o m o' m' w [] = grind (arith, nat_tests, owner_added owner 1 w [], sum_by-cons (one_count o' m' w) (new_lock o m owner) [], so_both (same_lock o m o' m') (nat_eq owner w) 1)
count-acquired owner o m o' m' w (x ∷ xs) = by_order (count-acquired owner o m o' m' w xs) (comes_before x.object x.mode o m)
  where
    by_lock : (t : Bool) → is_lock o m x ≡ t → count_of (cond t (counted_up owner x ∷ xs) (new_lock o m owner ∷ x ∷ xs)) o' m' w ≡ count_of (x ∷ xs) o' m' w + where_so (same_lock o m o' m' && nat_eq owner w) 1
    by_lock true e =
        let f = one_count o' m' w in
        let up : f (counted_up owner x) ≡ where_so (is_lock o' m' x) (owner_count w x + where_so (nat_eq owner w) 1) = ap (where_so (is_lock o' m' x)) (owner_added owner 1 w x.owners) in
        let alike : where_so (is_lock o' m' x) (where_so (nat_eq owner w) 1) ≡ where_so (same_lock o m o' m') (where_so (nat_eq owner w) 1) = ap (λ b. where_so b (where_so (nat_eq owner w) 1)) (same_as x o m o' m' e) in
        omega (arith, up, alike, so_sum (is_lock o' m' x) (owner_count w x) (where_so (nat_eq owner w) 1), so_both (same_lock o m o' m') (nat_eq owner w) 1, sum_by-cons f (counted_up owner x) xs, sum_by-cons f x xs)
    by_lock false e =
        let f = one_count o' m' w in
        let one : owner_count w (new_lock o m owner) ≡ where_so (nat_eq owner w) 1 = omega (arith, owner_added owner 1 w []) in
        omega (arith, sum_by-cons f (new_lock o m owner) (x ∷ xs), ap (where_so (same_lock o m o' m')) one, so_both (same_lock o m o' m') (nat_eq owner w) 1)

    by_order : count_of (acquired owner o m xs) o' m' w ≡ count_of xs o' m' w + where_so (same_lock o m o' m' && nat_eq owner w) 1 → (t : Bool) → count_of (cond t (x ∷ acquired owner o m xs) (cond (is_lock o m x) (counted_up owner x ∷ xs) (new_lock o m owner ∷ x ∷ xs))) o' m' w ≡ count_of (x ∷ xs) o' m' w + where_so (same_lock o m o' m' && nat_eq owner w) 1
    by_order ih true = let f = one_count o' m' w in omega (arith, ih, sum_by-cons f x (acquired owner o m xs), sum_by-cons f x xs)
    by_order ih false = by_lock (is_lock o m x) refl

-- a lock that nobody holds counts for nobody
pub count-filter : (xs : List Lock) (o : ℕ) (m : Mode) (w : ℕ) → count_of (filter has_owner xs) o m w ≡ count_of xs o m w
count-filter [] o m w = refl
count-filter (x ∷ xs) o m w = by_test (count-filter xs o m w) (has_owner x) refl
  where
    nobody : (ys : List OwnerCount) → nat_lt 0 (length ys) ≡ false → sum_by (count_if w) ys ≡ 0
    nobody [] e = refl
    nobody (y ∷ ys) e = absurd (true≢false (sym (lt-ltb 0 (length (y ∷ ys)) (omega arith)) ∙ e))

    no_count : (b : Bool) → where_so b 0 ≡ 0
    no_count true = refl
    no_count false = refl

    by_test : count_of (filter has_owner xs) o m w ≡ count_of xs o m w → (t : Bool) → has_owner x ≡ t → count_of (cond t (x ∷ filter has_owner xs) (filter has_owner xs)) o m w ≡ count_of (x ∷ xs) o m w
    by_test ih true e = let f = one_count o m w in omega (arith, ih, sum_by-cons f x (filter has_owner xs), sum_by-cons f x xs)
    by_test ih false e =
        let f = one_count o m w in
        let none : f x ≡ 0 = ap (where_so (is_lock o m x)) (nobody x.owners e) ∙ no_count (is_lock o m x) in
        omega (arith, ih, none, sum_by-cons f x xs)

pub count-without : (owner o : ℕ) (m : Mode) (w : ℕ) (xs : List Lock) → count_of (map (without owner) xs) o m w ≡ cond (nat_eq owner w) 0 (count_of xs o m w)
count-without owner o m w [] = grind (arith, nat_tests)
count-without owner o m w (x ∷ xs) = grind (arith, nat_tests, sum_by-cons (one_count o m w) (without owner x) (map (without owner) xs), owner_others owner w x.owners, count-without owner o m w xs, sum_by-cons (one_count o m w) x xs)

pub count-released : (owner o : ℕ) (m : Mode) (w : ℕ) (xs : List Lock) → count_of (released owner xs) o m w ≡ cond (nat_eq owner w) 0 (count_of xs o m w)
count-released owner o m w xs = count-filter (map (without owner) xs) o m w ∙ count-without owner o m w xs

pub count-passed : (from to o : ℕ) (m : Mode) (w : ℕ) (xs : List Lock) → count_of (passed from to xs) o m w ≡ cond (nat_eq from w) 0 (count_of xs o m w) + where_so (nat_eq to w) (count_of xs o m from)
count-passed from to o m w [] = grind (arith, nat_tests)
count-passed from to o m w (x ∷ xs) = grind (arith, nat_tests, sum_by-cons (one_count o m w) (passed_lock from to x) (map (passed_lock from to) xs), count-passed from to o m w xs, sum_by-cons (one_count o m w) x xs, sum_by-cons (one_count o m from) x xs, by_passing (λ (l : Lock). one_count o m w l ≡ where_so (is_lock o m x) (owner_count w l)) from to x refl (λ _. refl), owner_passed_count from to w x)

-- a lock that is counted down at its place
pub count-down : (owner o : ℕ) (m : Mode) (o' : ℕ) (m' : Mode) (w : ℕ) (xs : List Lock) (i : ℕ) (d y : Lock) → StandsAt o m xs i d → y ≡ counted_down owner (get_or xs i d) → All Counted (get_or xs i d).owners → 0 < owner_count owner (get_or xs i d) → count_of (set xs i y) o' m' w + where_so (same_lock o m o' m' && nat_eq owner w) 1 ≡ count_of xs o' m' w
count-down owner o m o' m' w xs i d y s e h l = grind (arith, nat_tests, sum_by-set (one_count o' m' w) xs i y d s.within, so_sum (is_lock o' m' (get_or xs i d)) (owner_count w (counted_down owner (get_or xs i d))) (where_so (nat_eq owner w) 1), owner_lowered owner w (get_or xs i d).owners h l, same_as (get_or xs i d) o m o' m' s.here, so_both (same_lock o m o' m') (nat_eq owner w) 1)

-- the same for the locks of a table
pub counts_lowered : (owner o : ℕ) (m : Mode) (xs mid ys : List Lock) (i : ℕ) (d y : Lock) → StandsAt o m xs i d → y ≡ counted_down owner (get_or xs i d) → All Counted (get_or xs i d).owners → 0 < owner_count owner (get_or xs i d) → mid ≡ set xs i y → ys ≡ filter has_owner mid → HoldsOneLess xs ys o m owner
counts_lowered owner o m xs mid ys i d y st f a l g h o' m' w = grind (arith, nat_tests, count-filter (set xs i y) o' m' w, count-down owner o m o' m' w xs i d y st f a l)

pub counts_more : (owner o : ℕ) (m : Mode) (xs ys : List Lock) → ys ≡ acquired owner o m xs → HoldsOneMore xs ys o m owner
counts_more owner o m xs ys e o' m' w = ap (λ (zs : List Lock). count_of zs o' m' w) e ∙ count-acquired owner o m o' m' w xs

pub counts_released : (owner : ℕ) (xs ys : List Lock) → ys ≡ released owner xs → HoldsNothing xs ys owner
counts_released owner xs ys e o m w = ap (λ (zs : List Lock). count_of zs o m w) e ∙ count-released owner o m w xs

pub counts_both : (from to : ℕ) (xs ys : List Lock) → ys ≡ passed from to xs → HoldsBoth xs ys from to
counts_both from to xs ys e o m w = ap (λ (zs : List Lock). count_of zs o m w) e ∙ count-passed from to o m w xs

-- a count that was read and isn't 0
pub counted_there : (owner n : ℕ) (xs : List Lock) (i : ℕ) (x d : Lock) → i < length xs → x ≡ get_or xs i x → n ≡ owner_count owner x → n ≢ 0 → 0 < owner_count owner (get_or xs i d)
counted_there owner n xs i x d l e f more = grind (arith, nat_tests, get_or_default xs i x d l)
