-- One lock of an owner is given up or passed, and what is left of its locks.
use Rattle.lock_local.proofs.Base.{nat_tests, [], AccessShareLock, All, All-cons, All-filter, All-head, All-map, All-nil, All-tail, All-weaker, ap, AreLocks, AreTagged, arith, at_lock, Bool, comes_before, cond, count_if, count_of, drop, eq-eqb, eqb-false, eqb-true, false, filter, flat_map, get_or, given_up, gives_up, handed_on, hands_on, has_owner, inl, inr, is_lock, is_tag, IsInOrder, IsRising, length, List, list_any, Lock, LockTag, map, map_fixed, Mode, nat_eq, not, owner_count, OwnerCount, pass_of, passed, passed_lock, passes, PassLock, refl, release_of, released, ReleaseLock, releases, set, StandsAt, suc, sum_by, sum_by-cons, sym, told_of, true, true≢false, What, without, zero, ℕ, ◌++◌, ◌+◌, ◌<◌, ◌||◌, ◌∙◌, ◌∷◌, ◌≡◌, ◌≢◌, ◌≤◌, ◌⊎◌}
use Rattle.lock_local.proofs.OwnerLemmas.{Counted, is_owner, others}
use Rattle.lock_local.proofs.OrderLemmas.{Before, KeepsLock, lock_swapped, lock_itself, after_lock, before_lock, after_both}
use Rattle.lock_local.proofs.ChangeLemmas.{by_passing, WellCounted, Owned, AreLocks-filtered, AreLocks-mapped, keeps-without, counted-without, keeps-passed, counted-passed, owner-passed, stands_tail, none_like}
use Rattle.lock_local.proofs.CountLemmas.{owner_others, owner_passed_count}
use Rattle.lock_local.proofs.TagLemmas.{behind_tag}

nothing_behind : {X : Type 0} (zs : List X) → zs ++ [] ≡ zs
nothing_behind [] = refl
nothing_behind (z ∷ zs) = ap (λ ws. z ∷ ws) (nothing_behind zs)

pub flat_none : {X A : Type 0} (e : X → List A) (xs : List X) → All (λ x. e x ≡ []) xs → flat_map e xs ≡ []
flat_none {X} {A} e [] h = refl
flat_none {X} {A} e (x ∷ xs) h = ap (λ ys. ys ++ flat_map e xs) (All-head (λ y. e y ≡ []) x xs h) ∙ flat_none e xs (All-tail (λ y. e y ≡ []) x xs h)

-- locks that are all owned are kept
pub all_kept : (xs : List Lock) → All Owned xs → filter has_owner xs ≡ xs
all_kept [] h = refl
all_kept (x ∷ xs) h = ap (λ b. cond b (x ∷ filter has_owner xs) (filter has_owner xs)) (All-head Owned x xs h) ∙ ap (λ ys. x ∷ ys) (all_kept xs (All-tail Owned x xs h))

-- an owner that doesn't hold a lock
others_same : (w : ℕ) (xs : List OwnerCount) → All Counted xs → sum_by (count_if w) xs ≡ 0 → others w xs ≡ xs
others_same w [] h e = refl
others_same w (x ∷ xs) h e = grind (arith, nat_tests, others_same w xs (All-tail Counted x xs h), All-tail Counted x xs h, others w xs, others, x.count, All-head Counted x xs h, sum_by-cons (count_if w) x xs)

-- no lock is held by the owner
abbrev pub Idle : ℕ → Lock → Type 0
Idle w l = owner_count w l ≡ 0

idle_without : (w : ℕ) (l : Lock) → WellCounted l → Idle w l → without w l ≡ l
idle_without w l h e = ap (λ (os : List OwnerCount). record { object = l.object; mode = l.mode; owners = os }) (others_same w l.owners h e)

no_release : (w : ℕ) (l : Lock) → Idle w l → release_of w l ≡ []
no_release w l e = ap (λ b. cond b [] (ReleaseLock l.object l.mode (owner_count w l) w ∷ [])) (eq-eqb (owner_count w l) 0 e)

no_pass : (from to : ℕ) (l : Lock) → Idle from l → pass_of from to l ≡ []
no_pass from to l e = ap (λ b. cond b [] (PassLock l.object l.mode (owner_count from l) from to ∷ [])) (eq-eqb (owner_count from l) 0 e)

idle_passed : (from to : ℕ) (l : Lock) → Idle from l → passed_lock from to l ≡ l
idle_passed from to l e = by_passing (λ k. k ≡ l) from to l refl (λ some. absurd (some e))

all_both : {X : Type 0} (P Q : X → Type 0) (xs : List X) → All P xs → All Q xs → All (λ x. P x × Q x) xs
all_both x0 P Q x3 a b = grind (arith, nat_tests, All-cons, All-head, All-tail)

pub released_idle : (w : ℕ) (xs : List Lock) → AreLocks xs → All (Idle w) xs → released w xs ≡ xs
released_idle w xs a h = grind (arith, nat_tests, has_owner, map_fixed, without w, All-weaker, without, idle_without, all_both WellCounted (Idle w) xs a.counted h, a.counted, all_kept xs a.owned, a.owned)

pub releases_idle : (w : ℕ) (xs : List Lock) → All (Idle w) xs → releases w xs ≡ []
releases_idle w xs h = flat_none (release_of w) xs (All-weaker (Idle w) (λ l. release_of w l ≡ []) (no_release w) xs h)

pub passed_idle : (from to : ℕ) (xs : List Lock) → All (Idle from) xs → passed from to xs ≡ xs
passed_idle from to xs h = map_fixed (passed_lock from to) xs (All-weaker (Idle from) (λ l. passed_lock from to l ≡ l) (idle_passed from to) xs h)

pub passes_idle : (from to : ℕ) (xs : List Lock) → All (Idle from) xs → passes from to xs ≡ []
passes_idle from to xs h = flat_none (pass_of from to) xs (All-weaker (Idle from) (λ l. pass_of from to l ≡ []) (no_pass from to) xs h)

-- an owner that gave a lock up, or passed it on, doesn't hold it
pub idle_after : (w : ℕ) (l : Lock) → Idle w (without w l)
idle_after w l = owner_others w w l.owners ∙ ap (λ b. cond b 0 (sum_by (count_if w) l.owners)) (eq-eqb w w refl)

pub idle_handed : (from to : ℕ) → from ≢ to → (l : Lock) → Idle from (passed_lock from to l)
idle_handed from to n l = grind (arith, nat_tests, owner_passed_count from to from l)

-- by whether it is the lock that changes
pub by_at : (P : Lock → Type 0) (o : ℕ) (m : Mode) (f : Lock → Lock) (l : Lock) → (is_lock o m l ≡ false → P l) → P (f l) → P (at_lock o m f l)
by_at P o m f l same changed = grind (arith, nat_tests)

keeps-at : (o : ℕ) (m : Mode) (f : Lock → Lock) → KeepsLock f → KeepsLock (at_lock o m f)
keeps-at o m f k = grind (arith, nat_tests, by_at, k.object, k.mode)

pub AreLocks-given_up : (w o : ℕ) (m : Mode) (xs : List Lock) → AreLocks xs → AreLocks (given_up w o m xs)
AreLocks-given_up w o m xs a = AreLocks-filtered (at_lock o m (without w)) (keeps-at o m (without w) (keeps-without w)) (λ l h. by_at WellCounted o m (without w) l (λ _. h) (counted-without w l h)) xs a

pub AreLocks-handed_on : (from to o : ℕ) (m : Mode) (xs : List Lock) → AreLocks xs → AreLocks (handed_on from to o m xs)
AreLocks-handed_on from to o m xs a = AreLocks-mapped (at_lock o m (passed_lock from to)) (keeps-at o m (passed_lock from to) (keeps-passed from to)) (λ l h. by_at WellCounted o m (passed_lock from to) l (λ _. h) (counted-passed from to l h)) (λ l h. by_at Owned o m (passed_lock from to) l (λ _. h) (owner-passed from to l ∙ h)) xs a

-- none of the locks is the one on the object in the mode
abbrev pub Others : ℕ → Mode → Lock → Type 0
Others o m l = is_lock o m l ≡ false

pub at_none : (o : ℕ) (m : Mode) (f : Lock → Lock) (xs : List Lock) → All (Others o m) xs → map (at_lock o m f) xs ≡ xs
at_none o m f xs h = map_fixed (at_lock o m f) xs (All-weaker (Others o m) (λ l. at_lock o m f l ≡ l) (λ l e. ap (λ b. cond b (f l) l) e) xs h)

pub told_none : (o : ℕ) (m : Mode) (e : Lock → List What) (xs : List Lock) → All (Others o m) xs → flat_map (told_of o m e) xs ≡ []
told_none o m e xs h = flat_none (told_of o m e) xs (All-weaker (Others o m) (λ l. told_of o m e l ≡ []) (λ l g. ap (λ b. cond b (e l) []) g) xs h)

-- the lock stands at its place
pub at_place : (o : ℕ) (m : Mode) (f : Lock → Lock) (xs : List Lock) (i : ℕ) (d : Lock) → IsInOrder xs → StandsAt o m xs i d → set xs i (f (get_or xs i d)) ≡ map (at_lock o m f) xs
at_place o m f [] i d h s = absurd (let l = s.within in omega arith)
at_place o m f (x ∷ xs) zero d h s = grind (arith, nat_tests, s.here, at_none o m f xs (none_like x xs o m h.0 s.here), none_like x xs o m h.0 s.here, h.0)
at_place o m f (x ∷ xs) (suc i) d h s = grind (arith, nat_tests, set, before_lock x o m (s.before zero (omega arith)), s.before zero (omega arith), at_place o m f xs i d h.1 (stands_tail o m x xs i d s), h.1, stands_tail o m x xs i d s)

pub told_place : (o : ℕ) (m : Mode) (e : Lock → List What) (xs : List Lock) (i : ℕ) (d : Lock) → IsInOrder xs → StandsAt o m xs i d → e (get_or xs i d) ≡ flat_map (told_of o m e) xs
told_place o m e [] i d h s = absurd (let l = s.within in omega arith)
told_place o m e (x ∷ xs) zero d h s = grind (arith, nat_tests, s.here, told_none o m e xs (none_like x xs o m h.0 s.here), none_like x xs o m h.0 s.here, h.0, nothing_behind (e x))
told_place o m e (x ∷ xs) (suc i) d h s = grind (arith, nat_tests, told_place o m e xs i d h.1 (stands_tail o m x xs i d s), h.1, stands_tail o m x xs i d s, before_lock x o m (s.before zero (omega arith)), s.before zero (omega arith))

-- a lock of the owner is the one that changes, or stands behind it
abbrev pub Near : ℕ → ℕ → Mode → Lock → Type 0
Near w o m l = owner_count w l ≢ 0 → (is_lock o m l ≡ true) ⊎ (comes_before o m l.object l.mode ≡ true)

-- what is told of all locks is told of the first, and then of those that are left
pub step_told : (w o : ℕ) (m : Mode) (f : Lock → Lock) (e : Lock → List What) → ((l : Lock) → Idle w l → e l ≡ []) → ((l : Lock) → Idle w (f l)) → (xs : List Lock) → IsInOrder xs → All Owned xs → All (Near w o m) xs → flat_map (told_of o m e) xs ++ flat_map e (filter has_owner (map (at_lock o m f) xs)) ≡ flat_map e xs
step_told w o m f e quiet idle [] h a n = refl
step_told w o m f e quiet idle (x ∷ xs) h a n = by_lock (step_told w o m f e quiet idle xs h.1 (All-tail Owned x xs a) (All-tail (Near w o m) x xs n)) (is_lock o m x) refl
  where
    rest : All (Others o m) xs → filter has_owner (map (at_lock o m f) xs) ≡ xs
    rest none = ap (filter has_owner) (at_none o m f xs none) ∙ all_kept xs (All-tail Owned x xs a)

    kept_first : (b : Bool) → flat_map e (cond b (f x ∷ xs) xs) ≡ flat_map e xs
    kept_first true = ap (λ ys. ys ++ flat_map e xs) (quiet (f x) (idle x))
    kept_first false = refl

    changed : is_lock o m x ≡ true → (told_of o m e x ++ flat_map (told_of o m e) xs) ++ flat_map e (filter has_owner (at_lock o m f x ∷ map (at_lock o m f) xs)) ≡ e x ++ flat_map e xs
    changed g =
        let none = none_like x xs o m h.0 g in
        ap (λ b. (cond b (e x) [] ++ flat_map (told_of o m e) xs) ++ flat_map e (filter has_owner (cond b (f x) x ∷ map (at_lock o m f) xs))) g
        ∙ ap (λ ys. (e x ++ ys) ++ flat_map e (filter has_owner (f x ∷ map (at_lock o m f) xs))) (told_none o m e xs none)
        ∙ ap (λ ys. ys ++ flat_map e (filter has_owner (f x ∷ map (at_lock o m f) xs))) (nothing_behind (e x))
        ∙ ap (λ zs. e x ++ flat_map e (cond (has_owner (f x)) (f x ∷ zs) zs)) (rest none)
        ∙ ap (λ ys. e x ++ ys) (kept_first (has_owner (f x)))

    -- the lock stays
    stays : is_lock o m x ≡ false → (told_of o m e x ++ flat_map (told_of o m e) xs) ++ flat_map e (filter has_owner (at_lock o m f x ∷ map (at_lock o m f) xs)) ≡ flat_map (told_of o m e) xs ++ (e x ++ flat_map e (filter has_owner (map (at_lock o m f) xs)))
    stays g =
        ap (λ b. (cond b (e x) [] ++ flat_map (told_of o m e) xs) ++ flat_map e (filter has_owner (cond b (f x) x ∷ map (at_lock o m f) xs))) g
        ∙ ap (λ b. flat_map (told_of o m e) xs ++ flat_map e (cond b (x ∷ filter has_owner (map (at_lock o m f) xs)) (filter has_owner (map (at_lock o m f) xs)))) (All-head Owned x xs a)

    behind : All (Others o m) xs → flat_map (told_of o m e) xs ++ (e x ++ flat_map e (filter has_owner (map (at_lock o m f) xs))) ≡ e x ++ flat_map e xs
    behind none =
        ap (λ ys. ys ++ (e x ++ flat_map e (filter has_owner (map (at_lock o m f) xs)))) (told_none o m e xs none)
        ∙ ap (λ zs. e x ++ flat_map e zs) (rest none)

    none_after : comes_before o m x.object x.mode ≡ true → All (Others o m) xs
    none_after after = All-weaker (Before x) (Others o m) (λ y b. after_lock y o m (after_both x y o m after b)) xs h.0

    by_count : (flat_map (told_of o m e) xs ++ flat_map e (filter has_owner (map (at_lock o m f) xs)) ≡ flat_map e xs) → is_lock o m x ≡ false → (t : Bool) → nat_eq (owner_count w x) 0 ≡ t → flat_map (told_of o m e) xs ++ (e x ++ flat_map e (filter has_owner (map (at_lock o m f) xs))) ≡ e x ++ flat_map e xs
    by_count ih g true c =
        let none : e x ≡ [] = quiet x (eqb-true (owner_count w x) 0 c) in
        ap (λ ys. flat_map (told_of o m e) xs ++ (ys ++ flat_map e (filter has_owner (map (at_lock o m f) xs)))) none
        ∙ ih
        ∙ sym (ap (λ ys. ys ++ flat_map e xs) none)
    by_count ih g false c = elim (All-head (Near w o m) x xs n (eqb-false (owner_count w x) 0 c)) [
      | inl here ↦ absurd (true≢false (sym here ∙ g))
      | inr after ↦ behind (none_after after)
    ]

    by_lock : (flat_map (told_of o m e) xs ++ flat_map e (filter has_owner (map (at_lock o m f) xs)) ≡ flat_map e xs) → (t : Bool) → is_lock o m x ≡ t → (told_of o m e x ++ flat_map (told_of o m e) xs) ++ flat_map e (filter has_owner (at_lock o m f x ∷ map (at_lock o m f) xs)) ≡ e x ++ flat_map e xs
    by_lock ih true g = changed g
    by_lock ih false g = stays g ∙ by_count ih g (nat_eq (owner_count w x) 0) refl

-- the owner's locks, when one is given up, are released as before
not_twice : (w : ℕ) (xs : List OwnerCount) → others w (others w xs) ≡ others w xs
not_twice w [] = refl
not_twice w (x ∷ xs) = by_test (not_twice w xs) (is_owner w x) refl
  where
    by_test : (others w (others w xs) ≡ others w xs) → (t : Bool) → is_owner w x ≡ t → others w (cond (not t) (x ∷ others w xs) (others w xs)) ≡ cond (not t) (x ∷ others w xs) (others w xs)
    by_test ih true e = ih
    by_test ih false e = ap (λ b. cond (not b) (x ∷ others w (others w xs)) (others w (others w xs))) e ∙ ap (λ ys. x ∷ ys) ih

without_twice : (w : ℕ) (l : Lock) → without w (without w l) ≡ without w l
without_twice w l = ap (λ (os : List OwnerCount). record { object = l.object; mode = l.mode; owners = os }) (not_twice w l.owners)

pub released_again : (w o : ℕ) (m : Mode) (xs : List Lock) → All Owned xs → released w (given_up w o m xs) ≡ released w xs
released_again w o m [] a = refl
released_again w o m (x ∷ xs) a = grind (arith, nat_tests, released_again w o m xs (All-tail Owned x xs a), All-tail Owned x xs a, has_owner (without w x), without w x, has_owner, without_twice w x, without w, All-head Owned x xs a)

pub passed_again : (from to o : ℕ) (m : Mode) → from ≢ to → (xs : List Lock) → passed from to (handed_on from to o m xs) ≡ passed from to xs
passed_again from to o m n [] = refl
passed_again from to o m n (x ∷ xs) = λ i. one i ∷ passed_again from to o m n xs i
  where
    one : passed_lock from to (at_lock o m (passed_lock from to) x) ≡ passed_lock from to x
    one = by_at (λ z. passed_lock from to z ≡ passed_lock from to x) o m (passed_lock from to) x (λ _. refl) (idle_passed from to (passed_lock from to x) (idle_handed from to n x))

-- the lock's tag is among some, where the owner holds it
abbrev Tagged : ℕ → List LockTag → Lock → Type 0
Tagged w ts l = owner_count w l ≢ 0 → list_any (is_tag l.object l.mode) ts ≡ true

-- which locks are still to be given up
tagged_less : (w : ℕ) (t : LockTag) (ts : List LockTag) (f : Lock → Lock) → KeepsLock f → ((l : Lock) → Idle w (f l)) → (xs : List Lock) → AreTagged w (t ∷ ts) xs → AreTagged w ts (map (at_lock t.object t.mode f) xs)
tagged_less w t ts f k idle xs h = All-map (Tagged w ts) (at_lock t.object t.mode f) xs (All-weaker (Tagged w (t ∷ ts)) (λ l. Tagged w ts (at_lock t.object t.mode f l)) left xs h)
  where
    left : (l : Lock) → Tagged w (t ∷ ts) l → Tagged w ts (at_lock t.object t.mode f l)
    left l all =
        by_at (Tagged w ts) t.object t.mode f l
        (λ other some. sym (ap (λ b. b || list_any (is_tag l.object l.mode) ts) (lock_swapped t.object t.mode l.object l.mode ∙ other)) ∙ all some)
        (λ some. absurd (some (idle l)))

pub tagged_given_up : (w : ℕ) (t : LockTag) (ts : List LockTag) (xs : List Lock) → AreTagged w (t ∷ ts) xs → AreTagged w ts (given_up w t.object t.mode xs)
tagged_given_up w t ts xs h = All-filter has_owner (λ l. owner_count w l ≢ 0 → list_any (is_tag l.object l.mode) ts ≡ true) (map (at_lock t.object t.mode (without w)) xs) (tagged_less w t ts (without w) (keeps-without w) (idle_after w) xs h)

pub tagged_handed_on : (from to : ℕ) (t : LockTag) (ts : List LockTag) (xs : List Lock) → from ≢ to → AreTagged from (t ∷ ts) xs → AreTagged from ts (handed_on from to t.object t.mode xs)
tagged_handed_on from to t ts xs n h = tagged_less from t ts (passed_lock from to) (keeps-passed from to) (idle_handed from to n) xs h

pub near_tagged : (w : ℕ) (t : LockTag) (ts : List LockTag) (xs : List Lock) → IsRising (t ∷ ts) → AreTagged w (t ∷ ts) xs → All (Near w t.object t.mode) xs
near_tagged w t ts xs r h = grind (arith, nat_tests, All-weaker, t.object, t.mode, lock_swapped, behind_tag, r.0)

pub idle_untagged : (w : ℕ) (xs : List Lock) → AreTagged w [] xs → All (Idle w) xs
idle_untagged w xs h = grind (arith, nat_tests, All-weaker)

-- the steps of the walks
pub releases_step : (w : ℕ) (t : LockTag) (ts : List LockTag) (xs : List Lock) → IsRising (t ∷ ts) → AreLocks xs → AreTagged w (t ∷ ts) xs → gives_up w t.object t.mode xs ++ releases w (given_up w t.object t.mode xs) ≡ releases w xs
releases_step w t ts xs r a h = step_told w t.object t.mode (without w) (release_of w) (no_release w) (idle_after w) xs a.in_order a.owned (near_tagged w t ts xs r h)

pub passes_step : (from to : ℕ) (t : LockTag) (ts : List LockTag) (xs : List Lock) → from ≢ to → IsRising (t ∷ ts) → AreLocks xs → AreTagged from (t ∷ ts) xs → hands_on from to t.object t.mode xs ++ passes from to (handed_on from to t.object t.mode xs) ≡ passes from to xs
passes_step from to t ts xs n r a h = grind (arith, nat_tests, t.object, t.mode, passes, all_kept (handed_on from to t.object t.mode xs) (AreLocks-handed_on from to t.object t.mode xs a).owned, AreLocks-handed_on from to t.object t.mode xs a, step_told from t.object t.mode (passed_lock from to) (pass_of from to) (no_pass from to) (idle_handed from to n) xs a.in_order a.owned (near_tagged from t ts xs r h), no_pass from to, idle_handed from to n, a.in_order, a.owned, near_tagged from t ts xs r h)

-- what an owner holds is counted
counted_within : (w : ℕ) (xs : List Lock) → All (λ l. owner_count w l ≤ count_of xs l.object l.mode w) xs
counted_within w [] = All-nil (λ l. owner_count w l ≤ count_of [] l.object l.mode w)
counted_within w (x ∷ xs) =
    All-cons (λ l. owner_count w l ≤ count_of (x ∷ xs) l.object l.mode w) x xs
    (let here : cond (is_lock x.object x.mode x) (owner_count w x) 0 ≡ owner_count w x = ap (λ b. cond b (owner_count w x) 0) (itself x) in
    omega (arith, here, sum_by-cons (λ (l : Lock). cond (is_lock x.object x.mode l) (owner_count w l) 0) x xs))
    (All-weaker (λ l. owner_count w l ≤ count_of xs l.object l.mode w) (λ l. owner_count w l ≤ count_of (x ∷ xs) l.object l.mode w) (λ y h. omega (arith, h, sum_by-cons (λ (l : Lock). cond (is_lock y.object y.mode l) (owner_count w l) 0) x xs)) xs (counted_within w xs))
  where
    itself : (x : Lock) → is_lock x.object x.mode x ≡ true
    itself x = lock_itself x.object x.mode

pub tagged_by : (w : ℕ) (ts : List LockTag) (xs : List Lock) → ((o : ℕ) (m : Mode) → 0 < count_of xs o m w → list_any (is_tag o m) ts ≡ true) → AreTagged w ts xs
tagged_by w ts xs h = All-weaker (λ l. owner_count w l ≤ count_of xs l.object l.mode w) (λ l. owner_count w l ≢ 0 → list_any (is_tag l.object l.mode) ts ≡ true) (λ l k some. h l.object l.mode (omega (arith, k, some))) xs (counted_within w xs)

-- to read past the last tag
abbrev pub no_tag : LockTag
no_tag = record { object = 0; mode = AccessShareLock }

-- all tags have been gone through
pub nothing_left : (ts : List LockTag) (i : ℕ) → length ts ≤ i → drop i ts ≡ []
nothing_left [] zero l = refl
nothing_left [] (suc i) l = refl
nothing_left (t ∷ ts) zero l = absurd (omega (arith, l))
nothing_left (t ∷ ts) (suc i) l = nothing_left ts i (omega (arith, l))

-- where nothing is left to be told, all has been
pub told_on : (es rest all : List What) → rest ≡ [] → es ++ rest ≡ all → es ≡ all
told_on es rest all e f = sym (nothing_behind es) ∙ ap (λ (zs : List What). es ++ zs) (sym e) ∙ f
