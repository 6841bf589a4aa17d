-- Facts of a session's locks that a call keeps.
use Rattle.lock_local.proofs.Base.{and_parts, arith, Bool, count_of, eqb-false, eqb-true, false, given_back, List, Lock, map, Mode, mode_number, nat_eq, nat_tests, refl, same_lock, SessionLocks, subst, sym, total, true, ℕ, ◌+◌, ◌<◌, ◌≡◌, ◌≢◌, ◌≤◌}
use Rattle.lock_local.proofs.ChangeLemmas.{table, FitLocks, down, fit_given_back}

-- a lock may be named by any mode of its number
pub count_like : (xs : List Lock) (o : ℕ) (m : Mode) (a : ℕ) (n : Mode) (w : ℕ) → same_lock o m a n ≡ true → count_of xs o m w ≡ count_of xs a n w
count_like xs o m a n w e = grind (arith, nat_tests, and_parts (nat_eq o a) (nat_eq (mode_number m) (mode_number n)) e, eqb-true o a (and_parts (nat_eq o a) (nat_eq (mode_number m) (mode_number n)) e).0, eqb-true (mode_number m) (mode_number n) (and_parts (nat_eq o a) (nat_eq (mode_number m) (mode_number n)) e).1)

-- a fact of the locks, seen by the table's value
pub by_view : (P : List Lock → Type 0) (s : ℕ) (xs : List Lock) (now : SessionLocks) → table s xs ≡ now → P xs → P now.locks
by_view P s xs now e h = let Q : SessionLocks → Type 0 = λ t. P t.locks in subst Q e h

-- locks that fit stay so
pub fit_lowered : (owner o : ℕ) (m : Mode) (xs ys : List Lock) (count : ℕ) → FitLocks xs → (count ≡ 0 → ys ≡ xs) → (0 < count → ys ≡ given_back owner o m xs) → FitLocks ys
fit_lowered owner o m xs ys count fits none less = by_count (nat_eq count 0) refl
  where
    by_count : (t : Bool) → nat_eq count 0 ≡ t → FitLocks ys
    by_count true e = subst FitLocks (sym (none (eqb-true count 0 e))) fits
    by_count false e = let more : count ≢ 0 = eqb-false count 0 e in fit_given_back owner o m xs (map (down owner o m) xs) ys fits refl (less (omega (arith, more)))

-- no sum grows where a count is lowered
pub taken_lowered : (xs ys : List Lock) (count taken : ℕ) → total xs ≤ taken → (count ≡ 0 → ys ≡ xs) → (0 < count → total ys + 1 ≡ total xs) → total ys ≤ taken
taken_lowered xs ys count taken few none less = grind (arith, nat_tests)
