-- What the changes of a session's locks keep.
use Rattle.std.proofs.lemmas.Bool.Decides.{nat_tests}
use Rattle.lock_local.proofs.Base.{[], AccessShareLock, acquired, added, Agrees, All, All-cons, All-filter, All-get_or, All-head, All-map, All-nil, All-tail, All-weaker, ap, AreLocks, arith, Bool, comes_before, cond, count_if, count_of, counted_down, counted_up, false, filter, filter_passes, get_or, has_owner, Holding, holds, insert, is_held, is_lock, IsInOrder, length, List, Lock, lock_total, lt-ltb, map, map_fixed, MatchBool, Mode, nat_lt, new_lock, not, owner_count, OwnerCount, passed, passed_lock, refl, released, SessionLocks, set, Sets, StandsAt, subst, suc, sum_by, sum_by-cons, sym, total, true, true≢false, without, WouldStandAt, zero, ℕ, ◌+◌, ◌<◌, ◌^◌, ◌||◌, ◌∙◌, ◌∷◌, ◌≡◌, ◌≢◌, ◌≤◌}
use Rattle.lock_local.proofs.OwnerLemmas.{Counted, is_owner, counts-added, Counted-added, Counted-lowered, counts-others, counts-lowered-le}
use Rattle.lock_local.proofs.OrderLemmas.{Before, KeepsLock, IsInOrder-map, IsInOrder-filter, held_test, lock_not_before, before_lock, other_lock, comes_after, after_both, after_lock}
use Rattle.lock_local.proofs.WalkLemmas.{freed_agrees, sets_like, same_back}

-- a lock whose counts are all at least 1
abbrev pub WellCounted : Lock → Type 0
WellCounted l = All Counted l.owners

abbrev pub Owned : Lock → Type 0
Owned l = has_owner l ≡ true

-- changes of each lock
pub AreLocks-filtered : (f : Lock → Lock) → KeepsLock f → ((l : Lock) → WellCounted l → WellCounted (f l)) → (xs : List Lock) → AreLocks xs → AreLocks (filter has_owner (map f xs))
AreLocks-filtered f k h xs a = record {
  in_order = IsInOrder-filter has_owner (map f xs) (IsInOrder-map f k xs a.in_order);
  owned = filter_passes has_owner (map f xs);
  counted = All-filter has_owner WellCounted (map f xs) (All-map WellCounted f xs (All-weaker WellCounted (λ l. WellCounted (f l)) h xs a.counted));
}

pub AreLocks-mapped : (f : Lock → Lock) → KeepsLock f → ((l : Lock) → WellCounted l → WellCounted (f l)) → ((l : Lock) → Owned l → Owned (f l)) → (xs : List Lock) → AreLocks xs → AreLocks (map f xs)
AreLocks-mapped f k h o xs a = grind (arith, nat_tests, IsInOrder-map f k xs a.in_order, All-weaker Owned (λ l. Owned (f l)) o xs a.owned, All-map Owned f xs (All-weaker Owned (λ l. Owned (f l)) o xs a.owned), All-weaker WellCounted (λ l. WellCounted (f l)) h xs a.counted, All-map WellCounted f xs (All-weaker WellCounted (λ l. WellCounted (f l)) h xs a.counted))

pub total-map : (f : Lock → Lock) → ((l : Lock) → lock_total (f l) ≤ lock_total l) → (xs : List Lock) → total (map f xs) ≤ total xs
total-map f h [] = omega arith
total-map f h (x ∷ xs) = omega (arith, h x, total-map f h xs, sum_by-cons lock_total (f x) (map f xs), sum_by-cons lock_total x xs)

pub total-filter : (p : Lock → Bool) (xs : List Lock) → total (filter p xs) ≤ total xs
total-filter p [] = omega arith
total-filter p (x ∷ xs) = grind (arith, nat_tests, total-filter p xs, sum_by-cons lock_total x (filter p xs), sum_by-cons lock_total x xs)

-- a lock that nobody holds counts for nothing
pub is_held-filter : (xs : List Lock) (o : ℕ) (m : Mode) → is_held (filter has_owner xs) o m ≡ is_held xs o m
is_held-filter [] o m = refl
is_held-filter (x ∷ xs) o m = grind (arith, nat_tests, is_held-filter xs o m)

pub is_held-map : (f : Lock → Lock) → KeepsLock f → ((l : Lock) → has_owner (f l) ≡ has_owner l) → (xs : List Lock) (o : ℕ) (m : Mode) → is_held (map f xs) o m ≡ is_held xs o m
is_held-map f k h [] o m = refl
is_held-map f k h (x ∷ xs) o m = grind (arith, nat_tests, is_held-map f k h xs o m, k.object x, k.mode x)

-- the owner without its locks
pub keeps-without : (owner : ℕ) → KeepsLock (without owner)
keeps-without owner = record { object = λ l. refl; mode = λ l. refl }

pub counted-without : (owner : ℕ) (l : Lock) → WellCounted l → WellCounted (without owner l)
counted-without owner l h = All-filter (λ c. not (is_owner owner c)) Counted l.owners h

pub total-without : (owner : ℕ) (l : Lock) → lock_total (without owner l) ≤ lock_total l
total-without owner l = omega (arith, counts-others owner l.owners)

pub AreLocks-released : (owner : ℕ) (xs : List Lock) → AreLocks xs → AreLocks (released owner xs)
AreLocks-released owner xs a = AreLocks-filtered (without owner) (keeps-without owner) (counted-without owner) xs a

pub total-released : (owner : ℕ) (xs : List Lock) → total (released owner xs) ≤ total xs
total-released owner xs = omega (arith, total-filter has_owner (map (without owner) xs), total-map (without owner) (total-without owner) xs)

-- counts that are passed
added_some : (owner n : ℕ) (xs : List OwnerCount) → 0 < length (added owner n xs)
added_some owner n [] = omega arith
added_some owner n (x ∷ xs) = grind (arith, nat_tests)

-- a lock that is passed, by whether anything is
abbrev pub passes_some : ℕ → ℕ → Lock → Lock
passes_some from to l = record { object = l.object; mode = l.mode; owners = added to (owner_count from l) (without from l).owners }

pub by_passing : (P : Lock → Type 0) (from to : ℕ) (l : Lock) → P l → (owner_count from l ≢ 0 → P (passes_some from to l)) → P (passed_lock from to l)
by_passing P from to l same some = grind (arith, nat_tests)

pub keeps-passed : (from to : ℕ) → KeepsLock (passed_lock from to)
keeps-passed from to = grind (arith, nat_tests)

pub counted-passed : (from to : ℕ) (l : Lock) → WellCounted l → WellCounted (passed_lock from to l)
counted-passed from to l h = grind (arith, nat_tests, counted-without from l h, by_passing WellCounted from to l h (λ more. Counted-added to (owner_count from l) (without from l).owners (omega (arith, more)) (counted-without from l h)))

pub total-passed : (from to : ℕ) (l : Lock) → lock_total (passed_lock from to l) ≤ lock_total l
total-passed from to l = grind (arith, nat_tests, counts-added to (owner_count from l) (without from l).owners, counts-others from l.owners, by_passing (λ m. lock_total m ≤ lock_total l) from to l (omega arith) (λ _. omega (arith, counts-added to (owner_count from l) (without from l).owners, counts-others from l.owners)))

some_owner : (owner : ℕ) (xs : List OwnerCount) → sum_by (count_if owner) xs ≢ 0 → nat_lt 0 (length xs) ≡ true
some_owner owner [] h = absurd (h refl)
some_owner owner (x ∷ xs) h = lt-ltb 0 (length (x ∷ xs)) (omega arith)

pub owner-passed : (from to : ℕ) (l : Lock) → has_owner (passed_lock from to l) ≡ has_owner l
owner-passed from to l = grind (arith, nat_tests, by_passing, has_owner, added_some to (owner_count from l) (without from l).owners, without from l, some_owner, l.owners)

pub AreLocks-passed : (from to : ℕ) (xs : List Lock) → AreLocks xs → AreLocks (passed from to xs)
AreLocks-passed from to xs a = AreLocks-mapped (passed_lock from to) (keeps-passed from to) (counted-passed from to) (λ l h. owner-passed from to l ∙ h) xs a

pub total-all-passed : (from to : ℕ) (xs : List Lock) → total (passed from to xs) ≤ total xs
total-all-passed from to xs = total-map (passed_lock from to) (total-passed from to) xs

pub is_held-passed : (from to : ℕ) (xs : List Lock) (o : ℕ) (m : Mode) → is_held (passed from to xs) o m ≡ is_held xs o m
is_held-passed from to xs o m = is_held-map (passed_lock from to) (keeps-passed from to) (owner-passed from to) xs o m

-- locks that a table may hold
abbrev pub FitLocks : List Lock → Type 0
FitLocks xs = AreLocks xs × (total xs ≤ 2 ^ 62)

pub fit_passed : (from to : ℕ) (xs ys : List Lock) → FitLocks xs → ys ≡ passed from to xs → FitLocks ys
fit_passed from to xs ys h e = subst FitLocks (sym e) (AreLocks-passed from to xs h.0, omega (arith, h.1, total-all-passed from to xs))

pub fit_released : (owner : ℕ) (xs mid ys : List Lock) → FitLocks xs → mid ≡ map (without owner) xs → ys ≡ filter has_owner mid → FitLocks ys
fit_released owner xs mid ys h e f = subst FitLocks (sym (f ∙ ap (filter has_owner) e)) (AreLocks-released owner xs h.0, omega (arith, h.1, total-released owner xs))

-- what a table agrees with, by its fields
pub agrees_by : (t u : SessionLocks) (shared : List Holding) → t ≡ u → Agrees u shared → Agrees t shared
agrees_by t u shared e a = let P : SessionLocks → Type 0 = λ v. Agrees v shared in subst P (sym e) a

-- a lock that is counted up, or put in at its place
pub All-acquired : (P : Lock → Type 0) (owner o : ℕ) (m : Mode) → P (new_lock o m owner) → ((l : Lock) → P l → P (counted_up owner l)) → (xs : List Lock) → All P xs → All P (acquired owner o m xs)
All-acquired P owner o m n u [] h = All-cons P (new_lock o m owner) [] n (All-nil P)
All-acquired P owner o m n u (x ∷ xs) h = grind (arith, nat_tests, All-tail P x xs h, All-acquired P owner o m n u xs (All-tail P x xs h), All-head P x xs h)

pub IsInOrder-acquired : (owner o : ℕ) (m : Mode) (xs : List Lock) → IsInOrder xs → IsInOrder (acquired owner o m xs)
IsInOrder-acquired owner o m [] h = (All-nil (Before (new_lock o m owner)), tt)
IsInOrder-acquired owner o m (x ∷ xs) h = by_order (IsInOrder-acquired owner o m xs h.1) (comes_before x.object x.mode o m) refl
  where
    by_lock : (t : Bool) → is_lock o m x ≡ t → comes_before x.object x.mode o m ≡ false → IsInOrder (cond t (counted_up owner x ∷ xs) (new_lock o m owner ∷ x ∷ xs))
    by_lock true e f = h
    by_lock false e f =
        let after = comes_after x o m f e in
        (All-cons (Before (new_lock o m owner)) x xs after (All-weaker (Before x) (Before (new_lock o m owner)) (λ y b. after_both x y o m after b) xs h.0), h)

    by_order : IsInOrder (acquired owner o m xs) → (t : Bool) → comes_before x.object x.mode o m ≡ t → IsInOrder (cond t (x ∷ acquired owner o m xs) (cond (is_lock o m x) (counted_up owner x ∷ xs) (new_lock o m owner ∷ x ∷ xs)))
    by_order ih true e = (All-acquired (Before x) owner o m e (λ _ b. b) xs h.0, ih)
    by_order ih false e = by_lock (is_lock o m x) refl e

pub AreLocks-acquired : (owner o : ℕ) (m : Mode) (xs : List Lock) → AreLocks xs → AreLocks (acquired owner o m xs)
AreLocks-acquired owner o m xs a = record {
  in_order = IsInOrder-acquired owner o m xs a.in_order;
  owned = All-acquired Owned owner o m refl (λ l _. lt-ltb 0 (length (added owner 1 l.owners)) (added_some owner 1 l.owners)) xs a.owned;
  counted = All-acquired WellCounted owner o m (All-cons Counted (record { owner = owner; count = 1 }) [] (omega arith) (All-nil Counted)) (λ l h. Counted-added owner 1 l.owners (omega arith) h) xs a.counted;
}

pub total-acquired : (owner o : ℕ) (m : Mode) (xs : List Lock) → total (acquired owner o m xs) ≡ total xs + 1
total-acquired owner o m [] = grind (arith, nat_tests, sum_by-cons lock_total (new_lock o m owner) [], sum_by-cons (λ (c : OwnerCount). c.count) (record { owner = owner; count = 1 }) [])
total-acquired owner o m (x ∷ xs) = grind (arith, nat_tests, total-acquired owner o m xs, counts-added owner 1 x.owners, sum_by-cons lock_total (counted_up owner x) xs, sum_by-cons lock_total x xs, sum_by-cons lock_total (new_lock o m owner) (x ∷ xs), sum_by-cons (λ (c : OwnerCount). c.count) (record { owner = owner; count = 1 }) [], sum_by-cons lock_total x (acquired owner o m xs))

pub fit_acquired : (owner o : ℕ) (m : Mode) (xs ys : List Lock) → FitLocks xs → total xs < 2 ^ 62 → ys ≡ acquired owner o m xs → FitLocks ys
fit_acquired owner o m xs ys h l e = subst FitLocks (sym e) (AreLocks-acquired owner o m xs h.0, omega (arith, l, total-acquired owner o m xs))

-- a lock that stands among others
pub stands_tail : (o : ℕ) (m : Mode) (x : Lock) (xs : List Lock) (i : ℕ) (d : Lock) → StandsAt o m (x ∷ xs) (suc i) d → StandsAt o m xs i d
stands_tail o m x xs i d s = record {
  within = let w = s.within in omega arith;
  here = s.here;
  before = λ k l. s.before (suc k) (omega arith);
}

pub would_stand_tail : (o : ℕ) (m : Mode) (x : Lock) (xs : List Lock) (i : ℕ) (d : Lock) → WouldStandAt o m (x ∷ xs) (suc i) d → WouldStandAt o m xs i d
would_stand_tail o m x xs i d s = record {
  within = let w = s.within in omega arith;
  before = λ k l. s.before (suc k) (omega arith);
  not_before = λ l. s.not_before (omega arith);
  not_here = λ l. s.not_here (omega arith);
}

pub acquired_at : (owner o : ℕ) (m : Mode) (xs : List Lock) (i : ℕ) (d : Lock) → StandsAt o m xs i d → set xs i (counted_up owner (get_or xs i d)) ≡ acquired owner o m xs
acquired_at owner o m [] i d s = absurd (let w = s.within in omega arith)
acquired_at owner o m (x ∷ xs) zero d s = cc (lock_not_before x o m s.here)
acquired_at owner o m (x ∷ xs) (suc i) d s = grind (arith, nat_tests, stands_tail o m x xs i d s, acquired_at owner o m xs i d (stands_tail o m x xs i d s), s.before zero (omega arith))

pub acquired_new : (owner o : ℕ) (m : Mode) (xs : List Lock) (i : ℕ) (d : Lock) → WouldStandAt o m xs i d → insert xs i (new_lock o m owner) ≡ acquired owner o m xs
acquired_new owner o m [] zero d s = refl
acquired_new owner o m [] (suc i) d s = absurd (let w = s.within in omega arith)
acquired_new owner o m (x ∷ xs) zero d s = cc (s.not_here (omega arith), s.not_before (omega arith))
acquired_new owner o m (x ∷ xs) (suc i) d s = grind (arith, nat_tests, would_stand_tail o m x xs i d s, acquired_new owner o m xs i d (would_stand_tail o m x xs i d s), s.before zero (omega arith))

-- the state of a table with other locks
abbrev pub table : ℕ → List Lock → SessionLocks
table s xs = record { session = s; locks = xs }

-- what is shared still agrees once the lock is counted up
pub counted_up_agrees : (owner o : ℕ) (m : Mode) (xs : List Lock) (i : ℕ) (d y : Lock) (s : ℕ) (shared : List Holding) → AreLocks xs → StandsAt o m xs i d → y ≡ counted_up owner (get_or xs i d) → ((a : ℕ) (n : Mode) → holds shared a n s ≡ is_held xs a n) → (a : ℕ) (n : Mode) → holds shared a n s ≡ is_held (set xs i y) a n
counted_up_agrees owner o m xs i d y s shared h st e agrees =
    let x = get_or xs i d in
    let owned : has_owner y ≡ true = ap has_owner e ∙ lt-ltb 0 (length (added owner 1 x.owners)) (added_some owner 1 x.owners) in
    freed_agrees xs i d x y s shared shared h.in_order st.within refl (ap (λ (z : Lock). z.object) e) (ap (λ (z : Lock). z.mode) e) (λ _. All-get_or Owned xs i d st.within h.owned)
    (subst (λ t. MatchBool t (shared ≡ shared) (Sets shared shared x.object x.mode s false)) (sym owned) refl) agrees

or_swap : (a b c : Bool) → (a || (b || c)) ≡ (b || (a || c))
or_swap v0 v1 c = grind (arith, nat_tests)

pub is_held-insert : (xs : List Lock) (i : ℕ) (y : Lock) (o : ℕ) (m : Mode) → is_held (insert xs i y) o m ≡ (held_test o m y || is_held xs o m)
is_held-insert [] zero y o m = refl
is_held-insert [] (suc i) y o m = refl
is_held-insert (x ∷ xs) zero y o m = refl
is_held-insert (x ∷ xs) (suc i) y o m = ap (λ b. held_test o m x || b) (is_held-insert xs i y o m) ∙ or_swap (held_test o m x) (held_test o m y) (is_held xs o m)

-- what is shared agrees once a new lock is granted
pub new_agrees : (owner o : ℕ) (m : Mode) (xs ys : List Lock) (i s : ℕ) (old new : List Holding) → ys ≡ insert xs i (new_lock o m owner) → Sets old new o m s true → ((a : ℕ) (n : Mode) → holds old a n s ≡ is_held xs a n) → (a : ℕ) (n : Mode) → holds new a n s ≡ is_held ys a n
new_agrees owner o m xs ys i s old new e sets agrees a n = grind (arith, nat_tests, is_held-insert xs i (new_lock o m owner) a n)

-- how often an owner holds a lock, by where it stands
count_none : (xs : List Lock) (o : ℕ) (m : Mode) (w : ℕ) → All (λ l. is_lock o m l ≡ false) xs → count_of xs o m w ≡ 0
count_none [] o m w h = refl
count_none (x ∷ xs) o m w h = grind (arith, nat_tests, All-head (λ l. is_lock o m l ≡ false) x xs h, All-tail (λ l. is_lock o m l ≡ false) x xs h, count_none xs o m w (All-tail (λ l. is_lock o m l ≡ false) x xs h))

pub none_like : (x : Lock) (xs : List Lock) (o : ℕ) (m : Mode) → All (Before x) xs → is_lock o m x ≡ true → All (λ l. is_lock o m l ≡ false) xs
none_like x xs o m h e = All-weaker (Before x) (λ l. is_lock o m l ≡ false) (λ l b. other_lock x l o m b e) xs h

pub count_at : (xs : List Lock) (i : ℕ) (d : Lock) (o : ℕ) (m : Mode) (w : ℕ) → IsInOrder xs → StandsAt o m xs i d → count_of xs o m w ≡ owner_count w (get_or xs i d)
count_at [] i d o m w h s = absurd (let l = s.within in omega arith)
count_at (x ∷ xs) zero d o m w h s =
    let f : Lock → ℕ = λ l. cond (is_lock o m l) (owner_count w l) 0 in
    let here : f x ≡ owner_count w x = ap (λ b. cond b (owner_count w x) 0) s.here in
    omega (arith, here, sum_by-cons f x xs, count_none xs o m w (none_like x xs o m h.0 s.here))
count_at (x ∷ xs) (suc i) d o m w h s = grind (arith, nat_tests, s.before zero (omega arith), before_lock x o m (s.before zero (omega arith)), stands_tail o m x xs i d s, count_at xs i d o m w h.1 (stands_tail o m x xs i d s))

-- a lock that isn't there
pub none_standing : (xs : List Lock) (i : ℕ) (d : Lock) (o : ℕ) (m : Mode) → IsInOrder xs → WouldStandAt o m xs i d → All (λ l. is_lock o m l ≡ false) xs
none_standing [] i d o m h s = All-nil (λ l. is_lock o m l ≡ false)
none_standing (x ∷ xs) zero d o m h s = grind (arith, nat_tests, comes_after x o m (s.not_before (omega arith)) (s.not_here (omega arith)), s.not_before (omega arith), s.not_here (omega arith), All-cons, All-weaker, after_lock, after_both, h.0)
none_standing (x ∷ xs) (suc i) d o m h s = grind (arith, nat_tests, All-cons, before_lock x o m (s.before zero (omega arith)), s.before zero (omega arith), none_standing xs i d o m h.1 (would_stand_tail o m x xs i d s), h.1, would_stand_tail o m x xs i d s)

pub count_missing : (xs : List Lock) (i : ℕ) (d : Lock) (o : ℕ) (m : Mode) (w : ℕ) → IsInOrder xs → WouldStandAt o m xs i d → count_of xs o m w ≡ 0
count_missing xs i d o m w h s = count_none xs o m w (none_standing xs i d o m h s)

-- a lock that is counted down
abbrev pub down : ℕ → ℕ → Mode → Lock → Lock
down owner o m l = cond (is_lock o m l) (counted_down owner l) l

pub down_at : (owner o : ℕ) (m : Mode) (xs : List Lock) (i : ℕ) (d : Lock) → IsInOrder xs → StandsAt o m xs i d → set xs i (counted_down owner (get_or xs i d)) ≡ map (down owner o m) xs
down_at owner o m [] i d h s = absurd (let l = s.within in omega arith)
down_at owner o m (x ∷ xs) zero d h s = grind (arith, nat_tests, map_fixed, All-weaker, none_like x xs o m h.0 s.here, h.0, s.here)
down_at owner o m (x ∷ xs) (suc i) d h s = grind (arith, nat_tests, s.before zero (omega arith), before_lock x o m (s.before zero (omega arith)), stands_tail o m x xs i d s, down_at owner o m xs i d h.1 (stands_tail o m x xs i d s))

pub by_down : (P : Lock → Type 0) (owner o : ℕ) (m : Mode) (l : Lock) → P l → P (counted_down owner l) → P (down owner o m l)
by_down P owner o m l same less = grind (arith, nat_tests)

pub keeps-down : (owner o : ℕ) (m : Mode) → KeepsLock (down owner o m)
keeps-down owner o m = grind (arith, nat_tests)

pub counted-down : (owner o : ℕ) (m : Mode) (l : Lock) → WellCounted l → WellCounted (down owner o m l)
counted-down owner o m l h = by_down WellCounted owner o m l h (Counted-lowered owner l.owners h)

pub total-down : (owner o : ℕ) (m : Mode) (l : Lock) → lock_total (down owner o m l) ≤ lock_total l
total-down owner o m l = by_down (λ k. lock_total k ≤ lock_total l) owner o m l (omega arith) (counts-lowered-le owner l.owners)

pub fit_given_back : (owner o : ℕ) (m : Mode) (xs mid ys : List Lock) → FitLocks xs → mid ≡ map (down owner o m) xs → ys ≡ filter has_owner mid → FitLocks ys
fit_given_back owner o m xs mid ys h e f = grind (arith, nat_tests, keeps-down owner o m, counted-down owner o m, AreLocks-filtered (down owner o m) (keeps-down owner o m) (counted-down owner o m) xs h.0, total-filter has_owner (map (down owner o m) xs), total-down owner o m, total-map (down owner o m) (total-down owner o m) xs)

-- what is shared agrees once the lock is counted down, and freed where no owner is left
pub down_agrees : (owner o : ℕ) (m : Mode) (xs : List Lock) (i : ℕ) (d y : Lock) (s : ℕ) (old new : List Holding) → AreLocks xs → StandsAt o m xs i d → y ≡ counted_down owner (get_or xs i d) → MatchBool (has_owner y) (new ≡ old) (Sets old new o m s false) → ((a : ℕ) (n : Mode) → holds old a n s ≡ is_held xs a n) → (a : ℕ) (n : Mode) → holds new a n s ≡ is_held (set xs i y) a n
down_agrees owner o m xs i d y s old new h st e told agrees =
    let x = get_or xs i d in
    freed_agrees xs i d x y s old new h.in_order st.within refl (ap (λ (z : Lock). z.object) e) (ap (λ (z : Lock). z.mode) e) (λ _. All-get_or Owned xs i d st.within h.owned) (by_owner (has_owner y) told) agrees
  where
    by_owner : (t : Bool) → MatchBool t (new ≡ old) (Sets old new o m s false) → MatchBool t (new ≡ old) (Sets old new (get_or xs i d).object (get_or xs i d).mode s false)
    by_owner true k = k
    by_owner false k = sets_like old new o m (get_or xs i d).object (get_or xs i d).mode s false (same_back (get_or xs i d).object (get_or xs i d).mode o m st.here) k

-- the lock stands among those of the table
pub stands : (o : ℕ) (m : Mode) (ys xs : List Lock) (i : ℕ) (d : Lock) → ys ≡ xs → StandsAt o m ys i d → StandsAt o m xs i d
stands o m ys xs i d e s = subst (λ (zs : List Lock). StandsAt o m zs i d) e s

-- some lock, to read where there is none
abbrev pub no_lock : Lock
no_lock = new_lock 0 AccessShareLock 0

pub acquired_over : (owner o : ℕ) (m : Mode) (xs : List Lock) (i : ℕ) (x y : Lock) → StandsAt o m xs i x → x ≡ get_or xs i x → y ≡ counted_up owner x → set xs i y ≡ acquired owner o m xs
acquired_over owner o m xs i x y s e f = ap (λ (z : Lock). set xs i z) (f ∙ ap (counted_up owner) e) ∙ acquired_at owner o m xs i x s

pub down_over : (owner o : ℕ) (m : Mode) (xs : List Lock) (i : ℕ) (x y : Lock) → IsInOrder xs → StandsAt o m xs i x → x ≡ get_or xs i x → y ≡ counted_down owner x → set xs i y ≡ map (down owner o m) xs
down_over owner o m xs i x y h s e f = ap (λ (z : Lock). set xs i z) (f ∙ ap (counted_down owner) e) ∙ down_at owner o m xs i x h s

pub freed_by : (b : Bool) (o : ℕ) (m : Mode) (s : ℕ) (old new : List Holding) → (b ≡ true → new ≡ old) → (b ≡ false → Sets old new o m s false) → MatchBool b (new ≡ old) (Sets old new o m s false)
freed_by v0 o m s old new f g = grind (arith, nat_tests)

pub freed_yes : (b : Bool) (o : ℕ) (m : Mode) (s : ℕ) (old mid new : List Holding) → false ≡ b → Sets old mid o m s false → new ≡ mid → MatchBool b (new ≡ old) (Sets old new o m s false)
freed_yes b o m s old mid new e h f = freed_by b o m s old new (λ a. absurd (true≢false (sym a ∙ sym e))) (λ _. subst (λ (zs : List Holding). Sets old zs o m s false) (sym f) h)

pub freed_no : (b : Bool) (o : ℕ) (m : Mode) (s : ℕ) (old new : List Holding) → true ≡ b → new ≡ old → MatchBool b (new ≡ old) (Sets old new o m s false)
freed_no b o m s old new e f = freed_by b o m s old new (λ _. f) (λ a. absurd (true≢false (e ∙ a)))
