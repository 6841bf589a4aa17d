-- What a session of a run sees of the locks of the others.
use Rattle.pgs_turns.proofs.Base.{nat_tests, ◌≡◌, ℕ, zero, suc, ◌+◌, inl, inr, List, [], ◌∷◌, map, Some, refl, sym, ap, ◌∙◌, arith, slice_get, flat_map, length-map}
use Rattle.pgs_turns.proofs.Words.{holds, is_held, SessionState, holdings, others, StoreState, session_of, IsHeld, LocksFit, Run, sessions_in}
use Rattle.lock_shared.specs.Ranked.{beside}
use Rattle.session_rules.proofs.Locked.{AreLocked, locked_is}

-- what a place of a list made by a function was made of
mapped_at : {A B : Type 0} (f : A → B) (xs : List A) (i : ℕ) (y : B) → slice_get (map f xs) i ≡ Some y → (x : A) × (slice_get xs i ≡ Some x) × (f x ≡ y)
mapped_at f [] i y e = absurd (cc e)
mapped_at f (x ∷ xs) zero y e = (x, refl, cc e)
mapped_at f (x ∷ xs) (suc i) y e = mapped_at f xs i y e

module _ (run : Run) (each : (j : ℕ) (st : StoreState) → slice_get run.stores j ≡ Some st → IsHeld run j st) (fit : LocksFit run.stores run.commons.locks) where
  are_locked : AreLocked 1 (sessions_in run.stores run.space) run.commons.locks
  unfolding session_of
  are_locked = record {
    locks = grind (arith, nat_tests, mapped_at);
    agree = λ place session there o m.
        let x = mapped_at (λ (s : StoreState). session_of s run.space) run.stores place session there in
        let number : 1 + place ≡ x.0.owners.session = omega (arith, (each place x.0 x.1).number) in
        ap (λ (n : ℕ). holds run.commons.locks o m n) number ∙ fit.agree place x.0 x.1 o m ∙ ap (λ (s : SessionState). is_held s.locks o m) x.2;
    beyond = λ o m n past. fit.none o m n (inr (omega (arith, past, length-map run.stores (λ (s : StoreState). session_of s run.space))));
  }

-- the session of this number sees what is held for the others
pub others_locked : (run : Run) (place : ℕ) (store : StoreState) → slice_get run.stores place ≡ Some store → ((j : ℕ) (st : StoreState) → slice_get run.stores j ≡ Some st → IsHeld run j st) → LocksFit run.stores run.commons.locks
    → (n : ℕ) → n ≡ place + 1 → flat_map holdings (others n 1 (sessions_in run.stores run.space)) ≡ beside store.owners.session run.commons.locks
others_locked run place store there each fit n is =
    locked_is n (sessions_in run.stores run.space) run.commons.locks (are_locked run each fit) (λ o m. fit.none o m 0 (inl refl))
    ∙ ap (λ (k : ℕ). beside k run.commons.locks) (is ∙ sym (each place store there).number)
