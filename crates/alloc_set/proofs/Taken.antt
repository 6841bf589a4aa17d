-- Lemmas on the ledger's step for a request.
use Rattle.alloc_set.proofs.Base.{Addr, Allocates, arith, Asks, Books, chunk_limit, class_of, CtxError, footprint, IsKept, Keeps, Keeps-more, LeavesLive, Moves, Moves-more, nat_tests, None, of_own, Ok, own_size, place_at, PutsLive, Result, same_stays, SameLive, SetLedger, SetPlace, SetState, Some, Space, state_of, take, take_class, take_own, Taken, ℕ, ◌<◌, ◌≡◌, ◌≤◌}
use Rattle.alloc_set.proofs.Places.{PutsPlace-live, LeavesLive-more}

-- a live chunk is put by a step of the ledger
module _ (a : SetState) (n : Books) (t : Space) (size : ℕ) (at : Addr) (step : Result (Taken SetLedger SetPlace) CtxError) (answer : Taken SetLedger SetPlace) (is : step ≡ Ok answer) (ledger : (state_of n).ledger ≡ answer.ledger)
    (kept : IsKept n) (place : place_at (state_of n) at ≡ Some answer.place) where
  pub Allocates-put : (s : Space) → (footprint a).live at ≡ None → PutsLive (footprint a) (footprint (state_of n)) at (Some size) → LeavesLive a (state_of n) → Asks a.account answer.asked s t
      → Moves (footprint a) (footprint (state_of n)) s t → Keeps (footprint a) (footprint (state_of n)) s t → Allocates a n s t size at step
  Allocates-put s fresh puts stays asked moves keeps = grind (arith, nat_tests, PutsPlace-live)

  -- after another step, which leaves the live chunks
  pub Allocates-after : (w : SetState) (s u : Space) → SameLive (footprint a) (footprint w) → LeavesLive a w → Moves (footprint a) (footprint w) s u → Keeps (footprint a) (footprint w) s u
      → (footprint w).live at ≡ None → PutsLive (footprint w) (footprint (state_of n)) at (Some size) → LeavesLive w (state_of n) → Asks a.account answer.asked s t
      → Moves (footprint w) (footprint (state_of n)) u t → Keeps (footprint w) (footprint (state_of n)) u t → Allocates a n s t size at step
  Allocates-after w s u live stood moved kept_bytes fresh puts stays asked moves keeps = grind (arith, nat_tests, Allocates-put s, LeavesLive-more a w (state_of n) stood stays, Moves-more (footprint a) (footprint w) (footprint (state_of n)) s u t moved moves, Keeps-more (footprint a) (footprint w) (footprint (state_of n)) s u t (same_stays (footprint a) (footprint w) live) kept_bytes keeps, same_stays (footprint a) (footprint w) live)

module _ (l : SetLedger) (left size : ℕ) where
  -- what an own block answers
  pub take_own-is : (answer : Taken SetLedger SetPlace) → take_own l left size ≡ Ok answer → answer ≡ of_own l size
  unfolding take_own
  take_own-is answer is = grind (arith, nat_tests)

  -- which step serves a request
  pub take-own : size ≤ 1073741823 → chunk_limit l.max < size → take l left size ≡ take_own l left (own_size size)
  unfolding take
  take-own small large = grind (arith, nat_tests)

  pub take-class : size ≤ 1073741823 → size ≤ chunk_limit l.max → take l left size ≡ take_class l left (class_of size)
  unfolding take
  take-class small fits = grind (arith, nat_tests)

-- which step serves a request
pub ruleset takes = (take-own, take-class)
