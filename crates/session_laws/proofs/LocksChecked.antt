-- Locks are released as often as they are acquired: what a reader has seen of a lock fits how often owners hold it.
use Rattle.session_laws.proofs.Words.{◌≡◌, ℕ, ◌+◌, ◌<◌, Bool, true, false, cond, List, [], ◌∷◌, map, filter, refl, sym, ap, ◌∙◌, arith, if◌then◌else◌, ◌++◌, subst, ◌==◌, ◌&&◌, sum_by, All, nat_le, and_parts, eqb-true, and_from, le-leb, All-head, All-tail, All-weaker, All-nil, sum_by-cons, nat_tests, locks, unlocks, zero, suc, replicate, Option, None, ◌⊎◌, option_map_or, ltb-true}
use Rattle.session_laws.proofs.Scenes.{Work, Mode, IsInOrder, Lock, comes_before, count_of, has_owner, is_lock, lock_total, owner_count, AreLocks, What, Scene, step_done, lock_given_back, lock_taken, ReleasesLocks, PassesLocks, ReleasesAllLocks, mode_number, Command, LevelState, OpenPortal, SessionState, is_aborted, Check, Element, LevelContext, OfLevel, OwnerRole, PortalContext, Text, line_elements, turn, Error, Moment, failure, unless, does, at_owner, snapshot_pushed, exited, Scan, Row, after_turn, elements, fetch_steps, at_savepoint, begin, elements_of, in_transaction, rolled_back_to, save, then_ok}
use Rattle.session_rules.specs.Works.{row_of}
use Rattle.session_laws.proofs.Rules.{Reader, allows_all, seen_after, count, Law, said_none, said_lock_passes, WellCounted, by_passing, down, none_like, passes_some, AreLocks-acquired, AreLocks-filtered, AreLocks-passed, AreLocks-released, counted-down, keeps-down, IsRun, fallible_so}
use Rattle.std.proofs.lemmas.List.Folds.{map_fixed}
use Rattle.lock_local.specs.declared.local_lock.OwnerCount.{OwnerCount}
use Rattle.lock_local.specs.Changes.{acquired, counted_down, counted_up, new_lock, passed, passed_lock, without, released, releases, releases_of_all}
use Rattle.lock_local.proofs.OwnerLemmas.{counts-added, counts-others}
use Rattle.lock_local.proofs.TotalLemmas.{no_total, sum_kept, sum_same, total_down, total_without}
use Rattle.session_laws.proofs.Lives.{Reads, read_both}
use Rattle.session_laws.proofs.LocksSight.{PassesOver, Sees, hides, of_locks, read_plain, subject, files_hidden, Base, least_of, Turns, ArePlain, stack_hidden, pushed_hidden, OwesUnlocks, ending_turn, least_acts, lock_owed, owner_owed, session_exits, touch_owed, by_owner_made}
use Rattle.session_laws.proofs.FilesLife.{count_over}
use Rattle.session_rules.proofs.Sight as part
use Rattle.pgs_step.specs.declared.events.What.TheVariants as what
use Rattle.session_rules.specs.Elements as e

counted_where : (b : Bool) (p q r : ℕ) → p + q ≡ r → cond b p 0 + cond b q 0 ≡ cond b r 0
counted_where b p q r e = grind (arith, nat_tests)

module _ (object mode : ℕ) where
  -- whether a lock is on this object in the mode of this number
  abbrev pub is_this : ℕ → Mode → Bool
  is_this o m = (object == o) && (mode == mode_number m)

  -- how often owners hold it
  abbrev pub weight : Lock → ℕ
  weight l = cond (is_this l.object l.mode) (lock_total l) 0

  abbrev pub there : List Lock → ℕ
  there xs = sum_by weight xs

  -- once, where it is this one
  abbrev pub once : ℕ → Mode → ℕ
  once o m = cond (is_this o m) 1 0

  no_weight : (l : Lock) → has_owner l ≡ false → weight l ≡ 0
  no_weight l e = grind (arith, nat_tests, no_total)

  same_name : (o : ℕ) (m : Mode) (l : Lock) → is_lock o m l ≡ true → is_this l.object l.mode ≡ is_this o m
  same_name o m l e = grind (arith, nat_tests, and_parts, eqb-true)

  -- a lock is held once more
  total_new : (owner o : ℕ) (m : Mode) → lock_total (new_lock o m owner) ≡ 1
  total_new owner o m = omega (arith, sum_by-cons (λ (c : OwnerCount). c.count) (record { owner = owner; count = 1 }) [])

  new_weight : (owner o : ℕ) (m : Mode) → weight (new_lock o m owner) ≡ once o m
  new_weight owner o m = ap (λ (n : ℕ). cond (is_this o m) n 0) (total_new owner o m)

  up_weight : (owner o : ℕ) (m : Mode) (l : Lock) → is_lock o m l ≡ true → weight (counted_up owner l) ≡ weight l + once o m
  up_weight owner o m l e = grind (arith, nat_tests, counts-added, counted_where, same_name)

  pub there_acquired : (owner o : ℕ) (m : Mode) (xs : List Lock) → there (acquired owner o m xs) ≡ there xs + once o m
  there_acquired owner o m [] = omega (arith, sum_by-cons weight (new_lock o m owner) [], new_weight owner o m)
  there_acquired owner o m (x ∷ xs) = by_order (there_acquired owner o m xs) (comes_before x.object x.mode o m)
    where
      by_lock : (t : Bool) → is_lock o m x ≡ t → there (cond t (counted_up owner x ∷ xs) (new_lock o m owner ∷ x ∷ xs)) ≡ there (x ∷ xs) + once o m
      by_lock true e = omega (arith, up_weight owner o m x e, sum_by-cons weight (counted_up owner x) xs, sum_by-cons weight x xs)
      by_lock false e = omega (arith, sum_by-cons weight (new_lock o m owner) (x ∷ xs), new_weight owner o m)

      by_order : there (acquired owner o m xs) ≡ there xs + once o m → (t : Bool)
          → there (cond t (x ∷ acquired owner o m xs) (cond (is_lock o m x) (counted_up owner x ∷ xs) (new_lock o m owner ∷ x ∷ xs))) ≡ there (x ∷ xs) + once o m
      by_order ih true = omega (arith, ih, sum_by-cons weight x (acquired owner o m xs), sum_by-cons weight x xs)
      by_order ih false = by_lock (is_lock o m x) refl

  -- counts are passed
  passed_total : (from to : ℕ) (l : Lock) → lock_total (passes_some from to l) ≡ lock_total l
  passed_total from to l = omega (arith, counts-added to (owner_count from l) (without from l).owners, counts-others from l.owners)

  pub there_passed : (from to : ℕ) (xs : List Lock) → there (passed from to xs) ≡ there xs
  there_passed from to xs =
      sum_same weight (passed_lock from to)
      (λ l. by_passing (λ (k : Lock). weight k ≡ weight l) from to l refl (λ some. ap (λ (n : ℕ). cond (is_this l.object l.mode) n 0) (passed_total from to l))) xs

  -- a lock is held once less
  pub there_kept : (xs : List Lock) → there (filter has_owner xs) ≡ there xs
  there_kept xs = sum_kept weight no_weight xs

  none_held : (o : ℕ) (m : Mode) (w : ℕ) (xs : List Lock) → All (λ l. is_lock o m l ≡ false) xs → count_of xs o m w ≡ 0
  none_held o m w [] h = refl
  none_held o m w (x ∷ xs) h =
      let f : Lock → ℕ = λ l. cond (is_lock o m l) (owner_count w l) 0 in
      let here : f x ≡ 0 = ap (λ b. cond b (owner_count w x) 0) (All-head (λ l. is_lock o m l ≡ false) x xs h) in
      omega (arith, here, sum_by-cons f x xs, none_held o m w xs (All-tail (λ l. is_lock o m l ≡ false) x xs h))

  pub there_down : (owner o : ℕ) (m : Mode) (xs : List Lock) → IsInOrder xs → All WellCounted xs → 0 < count_of xs o m owner → there (map (down owner o m) xs) + once o m ≡ there xs
  there_down owner o m [] order counted held = absurd (omega (arith, held))
  there_down owner o m (x ∷ xs) order counted held =
      go (is_lock o m x) refl (there_down owner o m xs order.1 (All-tail WellCounted x xs counted))
    where
      f : Lock → ℕ
      f l = cond (is_lock o m l) (owner_count owner l) 0

      go : (b : Bool) → is_lock o m x ≡ b → (0 < count_of xs o m owner → there (map (down owner o m) xs) + once o m ≡ there xs)
          → there (cond b (counted_down owner x) x ∷ map (down owner o m) xs) + once o m ≡ there (x ∷ xs)
      go true e ih =
          let none : All (λ l. is_lock o m l ≡ false) xs = none_like x xs o m order.0 e in
          let rest : map (down owner o m) xs ≡ xs =
          map_fixed (down owner o m) xs (All-weaker (λ l. is_lock o m l ≡ false) (λ l. down owner o m l ≡ l) (λ l n. ap (λ b. cond b (counted_down owner l) l) n) xs none) in
          let here : f x ≡ owner_count owner x = ap (λ b. cond b (owner_count owner x) 0) e in
          let some : 0 < owner_count owner x = omega (arith, held, sum_by-cons f x xs, here, none_held o m owner xs none) in
          let less : weight (counted_down owner x) + once x.object x.mode ≡ weight x =
          counted_where (is_this x.object x.mode) (lock_total (counted_down owner x)) 1 (lock_total x) (total_down owner x (All-head WellCounted x xs counted) some) in
          let same : once x.object x.mode ≡ once o m = ap (λ (b : Bool). cond b 1 0) (same_name o m x e) in
          let left : there (map (down owner o m) xs) ≡ there xs = ap there rest in
          omega (arith, less, same, left, sum_by-cons weight (counted_down owner x) (map (down owner o m) xs), sum_by-cons weight x xs)
      go false e ih =
          let here : f x ≡ 0 = ap (λ b. cond b (owner_count owner x) 0) e in
          omega (arith, ih (omega (arith, held, sum_by-cons f x xs, here)), sum_by-cons weight x (map (down owner o m) xs), sum_by-cons weight x xs)

-- The law of a lock: each act that takes it, gives it back or passes it keeps what a reader has seen of it.

module _ (object mode : ℕ) where
  abbrev pub lock_reader : Reader ℕ
  lock_reader = count (locks object mode) (unlocks object mode)

  -- What the reader has seen is how often owners hold the lock, and the locks of the session are sound.
  pub record LocksFit (n : ℕ) (s : Scene) : Type 0 where
    pub counted : n ≡ there object mode s.session.locks
    pub sound : AreLocks s.session.locks

  abbrev pub ReadsLocks : Law
  ReadsLocks = Reads lock_reader LocksFit

  locks_none : (event : What) → hides (subject event) of_locks ≡ true → locks object mode event ≡ 0
  locks_none event h = grind (arith, nat_tests)

  unlocks_none : (event : What) → hides (subject event) of_locks ≡ true → unlocks object mode event ≡ 0
  unlocks_none event h = grind (arith, nat_tests)

  lock_over : PassesOver of_locks lock_reader
  lock_over = count_over of_locks (locks object mode) (unlocks object mode) locks_none unlocks_none

  pub locks_aside : (s t : Scene) {events : List What} → t.session.locks ≡ s.session.locks → ArePlain of_locks events → ReadsLocks s t events
  locks_aside s t same plain = record {
    so = λ n h. read_plain of_locks lock_reader LocksFit lock_over n t plain (record { counted = h.counted ∙ ap (there object mode) (sym same); sound = subst AreLocks (sym same) h.sound });
  }

  pub locks_seen : Sees of_locks ReadsLocks
  locks_seen = record { both = λ a b. read_both lock_reader LocksFit a b; aside = λ s t same plain. locks_aside s t (same.so part.of_locks refl) plain }

  -- a lock is taken
  pub taken_so : (o : ℕ) (m : Mode) (owner : ℕ) (s : Scene) → ReadsLocks s (lock_taken o m owner s).scene (lock_taken o m owner s).events
  taken_so o m owner s = record {
    so = λ n h. record {
      allowed = and_from (nat_le 0 n) true (le-leb 0 n (omega arith)) refl;
      fits = record {
        counted = let more : there object mode (acquired owner o m s.session.locks) ≡ there object mode s.session.locks + once object mode o m = there_acquired object mode owner o m s.session.locks in omega (arith, h.counted, more);
        sound = AreLocks-acquired owner o m s.session.locks h.sound;
      };
    };
  }

  -- one release of a lock
  pub record Goes (n m : ℕ) (events : List What) : Type 0 where
    pub allowed : allows_all lock_reader n events ≡ true
    pub left : seen_after lock_reader n events ≡ m

  one_goes : (o : ℕ) (m : Mode) (times owner n rest : ℕ) (events : List What) → n ≡ cond (is_this object mode o m) times 0 + rest
      → ((k : ℕ) → k ≡ rest → (left : ℕ) → Goes k left events → Goes n left (what.ReleaseLock o m times owner ∷ events))
  one_goes o m times owner n rest events is k same left goes = grind (arith, nat_tests, and_from, le-leb)

  -- what an owner holds is given up
  releases_go : (owner : ℕ) (xs : List Lock) (rest n : ℕ) → n ≡ there object mode xs + rest → Goes n (there object mode (map (without owner) xs) + rest) (releases owner xs)
  releases_go owner [] rest n is = record { allowed = refl; left = is }
  releases_go owner (x ∷ xs) rest n is = go (owner_count owner x == 0) refl (λ (k : ℕ) (e : k ≡ there object mode xs + (weight object mode (without owner x) + rest)). releases_go owner xs (weight object mode (without owner x) + rest) k e)
    where
      held : ℕ
      held = cond (is_this object mode x.object x.mode) (owner_count owner x) 0

      less : weight object mode (without owner x) + held ≡ weight object mode x
      less = counted_where (is_this object mode x.object x.mode) (lock_total (without owner x)) (owner_count owner x) (lock_total x) (total_without owner x)

      whole : there object mode (x ∷ xs) ≡ weight object mode x + there object mode xs
      whole = sum_by-cons (weight object mode) x xs

      all : there object mode (map (without owner) (x ∷ xs)) ≡ weight object mode (without owner x) + there object mode (map (without owner) xs)
      all = sum_by-cons (weight object mode) (without owner x) (map (without owner) xs)

      go : (b : Bool) → (owner_count owner x == 0) ≡ b
          → ((k : ℕ) → k ≡ there object mode xs + (weight object mode (without owner x) + rest) → Goes k (there object mode (map (without owner) xs) + (weight object mode (without owner x) + rest)) (releases owner xs))
          → Goes n (there object mode (map (without owner) (x ∷ xs)) + rest) ((if b then [] else what.ReleaseLock x.object x.mode (owner_count owner x) owner ∷ []) ++ releases owner xs)
      go b e ih = grind (arith, nat_tests, held, eqb-true, whole, less, all, one_goes)

  let_go_so : (owner : ℕ) (s : Scene) → ReadsLocks s (step_done (ReleasesLocks owner) s).scene (step_done (ReleasesLocks owner) s).events
  let_go_so owner s = record {
    so = λ n h.
        let goes = releases_go owner s.session.locks 0 n (omega (arith, h.counted)) in
        let kept : there object mode (released owner s.session.locks) ≡ there object mode (map (without owner) s.session.locks) = there_kept object mode (map (without owner) s.session.locks) in
        record { allowed = goes.allowed; fits = record { counted = omega (arith, goes.left, kept); sound = AreLocks-released owner s.session.locks h.sound } };
  }

  passed_so : (from to : ℕ) (s : Scene) → ReadsLocks s (step_done (PassesLocks from to) s).scene (step_done (PassesLocks from to) s).events
  passed_so from to s = record {
    so = λ n h.
        read_plain of_locks lock_reader LocksFit lock_over n (step_done (PassesLocks from to) s).scene (said_lock_passes (λ o m count from to. refl) from to s.session.locks)
        (record { counted = h.counted ∙ sym (there_passed object mode from to s.session.locks); sound = AreLocks-passed from to s.session.locks h.sound });
  }

  -- all locks go
  all_go : (top : ℕ) (xs : List Lock) (n : ℕ) → n ≡ there object mode xs → Goes n 0 (releases_of_all top xs)
  all_go top [] n is = record { allowed = refl; left = is }
  all_go top (x ∷ xs) n is =
      let whole : there object mode (x ∷ xs) ≡ weight object mode x + there object mode xs = sum_by-cons (weight object mode) x xs in
      one_goes x.object x.mode (lock_total x) top n (there object mode xs) (releases_of_all top xs) (omega (arith, is, whole)) (there object mode xs) refl 0 (all_go top xs (there object mode xs) refl)

  all_gone_so : (top : ℕ) (s : Scene) → ReadsLocks s (step_done (ReleasesAllLocks top) s).scene (step_done (ReleasesAllLocks top) s).events
  all_gone_so top s = record {
    so = λ n h.
        let goes = all_go top s.session.locks n h.counted in
        record { allowed = goes.allowed; fits = record { counted = goes.left; sound = none_sound } };
  }
    where
      none_sound : AreLocks []
      none_sound = record { in_order = tt; owned = All-nil (λ l. has_owner l ≡ true); counted = All-nil WellCounted }

  -- one that an owner holds is given back
  pub given_back_so : (o : ℕ) (m : Mode) (owner : ℕ) (s : Scene) → 0 < count_of s.session.locks o m owner → ReadsLocks s (lock_given_back o m owner s).scene (lock_given_back o m owner s).events
  given_back_so o m owner s held = record {
    so = λ n h.
        let xs = s.session.locks in
        let less : there object mode (map (down owner o m) xs) + once object mode o m ≡ there object mode xs = there_down object mode owner o m xs h.sound.in_order h.sound.counted held in
        let kept : there object mode (filter has_owner (map (down owner o m) xs)) ≡ there object mode (map (down owner o m) xs) = there_kept object mode (map (down owner o m) xs) in
        record {
          allowed = and_from (nat_le (once object mode o m) n) true (le-leb (once object mode o m) n (omega (arith, less, h.counted))) refl;
          fits = record {
            counted = omega (arith, less, kept, h.counted);
            sound = AreLocks-filtered (down owner o m) (keeps-down owner o m) (counted-down owner o m) xs h.sound;
          };
        };
  }

  pub locks_base : Base of_locks ReadsLocks
  locks_base = grind (arith, nat_tests, locks_seen, let_go_so, passed_so, all_gone_so, files_hidden, of_locks)

  pub locks_law : Turns of_locks ReadsLocks
  locks_law = grind (arith, nat_tests, least_of, of_locks, locks_base, locks_aside, said_none, stack_hidden, locks_seen)

-- What is checked before a lock is given back, a file is used and a lock is taken holds where these come.

-- what was checked for an element, in the scene that it meets: that the lock is held, that the file is open, and that the level isn't aborted
abbrev pub IsChecked : Element → Scene → Type 0
IsChecked (e.InTurn name x) s = IsChecked x s
IsChecked (e.Unlock object mode) s = failure (e.HoldsLock object mode) s ≡ None
IsChecked (e.Touch file) s = failure (e.IsFile file) s ≡ None
IsChecked (e.TakeLock role object mode) s = is_aborted s.session.levels ≡ false
IsChecked other s = Unit {0}

-- an element for which nothing was
abbrev IsFree : Element → Type 0
IsFree (e.InTurn name x) = IsFree x
IsFree (e.Unlock object mode) = ⊥
IsFree (e.Touch file) = ⊥
IsFree (e.TakeLock role object mode) = ⊥
IsFree other = Unit {0}

abbrev AreFree : List Element → Type 0
AreFree [] = Unit {0}
AreFree (x ∷ xs) = IsFree x × AreFree xs

free_checked : (x : Element) (s : Scene) → IsFree x → IsChecked x s
free_checked (e.InTurn name x) s h = free_checked x s h
free_checked (e.Unlock object mode) s h = absurd h
free_checked (e.Touch file) s h = absurd h
free_checked (e.TakeLock role object mode) s h = absurd h
free_checked other s h = tt

-- an element behind which a level isn't aborted if it wasn't before
abbrev IsCalm : Element → Type 0
IsCalm (e.Checks check) = Unit {0}
IsCalm (e.MakeLevel name implicit) = Unit {0}
IsCalm (e.MakeContext LevelContext) = Unit {0}
IsCalm (e.MakeContext (PortalContext name)) = Unit {0}
IsCalm (e.MakeOwner role) = Unit {0}
IsCalm (e.MakePortal name object rows bad) = Unit {0}
IsCalm e.LevelStands = Unit {0}
IsCalm other = ⊥

-- elements that come behind what is checked for them
data Safe : List Element → Type 0 where
  free : {xs : List Element} → AreFree xs → Safe xs
  calm : {x : Element} {xs : List Element} → IsCalm x → Safe xs → Safe (x ∷ xs)
  takes : {role : OwnerRole} {object : ℕ} {mode : Mode} {xs : List Element} → AreFree xs → Safe (e.TakeLock role object mode ∷ xs)
  unlock : {object : ℕ} {mode : Mode} {xs : List Element} → AreFree xs → Safe (e.Checks (e.HoldsLock object mode) ∷ e.Unlock object mode ∷ xs)
  touch : {file : ℕ} {xs : List Element} → AreFree xs → Safe (e.Checks (e.IsFile file) ∷ e.Touch file ∷ xs)

free_run : (w : Option ℕ) (xs : List Element) (m : Moment) → AreFree xs → IsRun IsChecked w xs m
free_run w [] m h = tt
free_run w (x ∷ xs) m h = (free_checked x m.scene h.0, λ none. free_run w xs (does w x m).moment h.1)

calm_checked : (x : Element) (s : Scene) → IsCalm x → IsChecked x s
calm_checked x s h = grind (arith, nat_tests)

-- such an element
calm_keeps : (w : Option ℕ) (x : Element) (m : Moment) → IsCalm x → is_aborted m.scene.session.levels ≡ false → is_aborted (does w x m).moment.scene.session.levels ≡ false
unfolding does
calm_keeps w x m c h = grind (arith, nat_tests)

-- where a check passed it holds, of the same scene
passed_check : (w : Option ℕ) (check : Check) (m : Moment) → (does w (e.Checks check) m).refusal ≡ None → failure check (does w (e.Checks check) m).moment.scene ≡ None
unfolding does
passed_check w check m none = grind (arith, nat_tests)

safe_run : (w : Option ℕ) (xs : List Element) (m : Moment) → Safe xs → is_aborted m.scene.session.levels ≡ false → IsRun IsChecked w xs m
safe_run w xs m (free h) active = free_run w xs m h
safe_run w xs m (calm {x = x} {xs = ys} c h) active = (calm_checked x m.scene c, λ none. safe_run w ys (does w x m).moment h (calm_keeps w x m c active))
safe_run w xs m (takes {role = role} {object = object} {mode = mode} {xs = ys} h) active = (active, λ none. free_run w ys (does w (e.TakeLock role object mode) m).moment h)
safe_run w xs m (unlock {object = object} {mode = mode} {xs = ys} h) active = (
  tt,
  λ none. (
    passed_check w (e.HoldsLock object mode) m none,
    λ more. free_run w ys (does w (e.Unlock object mode) (does w (e.Checks (e.HoldsLock object mode)) m).moment).moment h,
  ),
)
safe_run w xs m (touch {file = file} {xs = ys} h) active = (
  tt,
  λ none. (
    passed_check w (e.IsFile file) m none,
    λ more. free_run w ys (does w (e.Touch file) (does w (e.Checks (e.IsFile file)) m).moment).moment h,
  ),
)

-- lists of elements
both_are_free : (xs ys : List Element) → AreFree xs → AreFree ys → AreFree (xs ++ ys)
both_are_free [] ys h k = k
both_are_free (x ∷ xs) ys h k = (h.0, both_are_free xs ys h.1 k)

then_free : {xs : List Element} (ys : List Element) → Safe xs → AreFree ys → Safe (xs ++ ys)
then_free ys (free {xs = xs} h) k = free (both_are_free xs ys h k)
then_free ys (calm c h) k = calm c (then_free ys h k)
then_free ys (takes {xs = xs} h) k = takes (both_are_free xs ys h k)
then_free ys (unlock {xs = xs} h) k = unlock (both_are_free xs ys h k)
then_free ys (touch {xs = xs} h) k = touch (both_are_free xs ys h k)

checks_are_free : (checks : List Check) → AreFree (map e.Checks checks)
checks_are_free [] = tt
checks_are_free (check ∷ checks) = (tt, checks_are_free checks)

commits_are_free : (n : ℕ) → AreFree (replicate n e.Subcommit)
commits_are_free zero = tt
commits_are_free (suc n) = (tt, commits_are_free n)

rolled_back_free : (n : ℕ) (levels : List LevelState) → AreFree (rolled_back_to n levels)
rolled_back_free n [] = tt
rolled_back_free n (level ∷ levels) = grind (arith, nat_tests, rolled_back_free n levels, both_are_free)

then_ok_free : (es : List Element) → AreFree es → AreFree (then_ok es)
then_ok_free es h = both_are_free es (e.Says what.Ok ∷ []) h (tt, tt)

-- of the commands on transactions
save_free : (name : Text) (levels : List LevelState) → AreFree (save name levels)
save_free name levels = grind (arith, nat_tests)

begin_free : (levels : List LevelState) → AreFree (begin levels)
begin_free levels = grind (arith, nat_tests)

savepoint_free : (name : Text) (levels : List LevelState) (go_on : ℕ → List Element) → ((n : ℕ) → AreFree (go_on n)) → AreFree (at_savepoint name levels go_on)
savepoint_free name levels go_on h = grind (arith, nat_tests)

-- of a scan

last_or_more : (b : Bool) (xs ys : List Element) → AreFree xs → AreFree ys → AreFree (elim b as (λ _. List Element) [ true ↦ xs | false ↦ ys ])
last_or_more b xs ys h k = grind (arith, nat_tests)

fetch_free : (name : Text) (count : ℕ) (scan : Scan) (rows : ℕ) → AreFree (fetch_steps name count scan rows)
fetch_free name zero scan rows = (tt, tt)
fetch_free name (suc count) scan rows = grind (arith, nat_tests, fetch_free name count (after_turn scan), both_are_free, last_or_more)

fetches_free : (name : Text) (count : ℕ) (o : Option OpenPortal) → AreFree (option_map_or (λ portal. fetch_steps name count portal.scan 0) o [])
fetches_free name count o = grind (arith, nat_tests, fetch_free)

-- of what is done within a transaction
row_free : (r : Row) → AreFree r.steps → Safe (elements r)
row_free r h = free (both_are_free (map e.Checks r.checks) r.steps (checks_are_free r.checks) h)

row_safe : (c : Work) (portals : List OpenPortal) → Safe (elements (row_of c portals))
row_safe c portals = grind (arith, nat_tests, free, calm, takes, touch, unlock, fetches_free, row_free)

in_transaction_safe : (levels : List LevelState) (work : List Element) → Safe work → Safe (in_transaction levels work)
in_transaction_safe [] work h = calm tt (calm tt (calm tt (calm tt (then_free (e.CommitTop ∷ e.Says what.Ok ∷ []) h (tt, (tt, tt))))))
in_transaction_safe (level ∷ levels) work h = then_free (e.Says what.Ok ∷ []) h (tt, tt)

-- A line is free of these, or its session isn't aborted and they are safe.
elements_safe : (c : Command) (session : SessionState) → AreFree (elements_of c session) ⊎ ((is_aborted session.levels ≡ false) × Safe (elements_of c session))
unfolding elements_of
elements_safe c s = grind (arith, nat_tests, then_ok_free, begin_free, save_free, savepoint_free, commits_are_free, both_are_free, rolled_back_free, in_transaction_safe, row_safe)

-- Each element of a line meets a scene in which what was checked for it holds.
pub line_checked : (w : Option ℕ) (line : Option Command) (m : Moment) → IsRun IsChecked w (line_elements line m.scene.session) m
line_checked w line m = grind (arith, nat_tests, free_run, elements_safe, safe_run)

-- A line keeps the law of a lock, and so does the end of a session.

pub passed_unless : (b : Bool) (error : Error) → unless b error ≡ None → b ≡ true
passed_unless b error e = grind (arith, nat_tests)

module _ (object mode : ℕ) where
  -- a lock that the level's owner holds is given back
  unlock_so : (o : ℕ) (m : Mode) (s : Scene) → failure (e.HoldsLock o m) s ≡ None → ReadsLocks object mode s (at_owner OfLevel (lock_given_back o m) s).scene (at_owner OfLevel (lock_given_back o m) s).events
  unlock_so o m s checked = grind (arith, nat_tests, ltb-true, passed_unless, given_back_so)

  locks_owed : (w : Option ℕ) (x : Element) (m : Moment) → IsChecked x m.scene → OwesUnlocks (ReadsLocks object mode) w x m
  unfolding does
  locks_owed w (e.InTurn name x) m checked = locks_owed w x m checked
  locks_owed w (e.MakeOwner role) m checked = owner_owed of_locks (ReadsLocks object mode) (locks_law object mode) w role m (by_owner_made of_locks (ReadsLocks object mode) (locks_base object mode) refl)
  locks_owed w (e.TakeLock role o mo) m checked =
      lock_owed of_locks (ReadsLocks object mode) (locks_law object mode).least w role o mo m (λ n. record { so = taken_so object mode o mo n })
  locks_owed w (e.Unlock o mo) m checked = record { so = unlock_so o mo m.scene checked }
  locks_owed w (e.Touch file) m checked =
      touch_owed of_locks (ReadsLocks object mode) (locks_law object mode).least w file m ((files_hidden of_locks (ReadsLocks object mode) (locks_seen object mode) refl).used file)
  locks_owed w (e.PushSnapshot snapshot) m checked =
      fallible_so (ReadsLocks object mode) (least_acts of_locks (ReadsLocks object mode) (locks_law object mode).least) w m _ (snapshot_pushed snapshot) (pushed_hidden of_locks (ReadsLocks object mode) (locks_seen object mode) refl snapshot)
  locks_owed w other m checked = tt

  -- Each line keeps it, in any session.
  pub locks_turn : (w : Option ℕ) (line : Option Command) (m : Moment) → ReadsLocks object mode m.scene (turn w line m).moment.scene (turn w line m).events
  locks_turn w line m = ending_turn of_locks (ReadsLocks object mode) (locks_law object mode) IsChecked w line m (line_checked w line m) (locks_owed w)

  -- So does the end of a session.
  pub locks_exit : (s : Scene) → ReadsLocks object mode s (exited s).scene (exited s).events
  locks_exit s = session_exits of_locks (ReadsLocks object mode) (locks_law object mode) s
