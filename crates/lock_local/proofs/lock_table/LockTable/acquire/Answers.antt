use Rattle.lock_local.proofs.Base.{ap, beside, Conflict, conflict_is, conflict_stands, Err, least_conflict, LockError, Mode, None, NotHeld, Option, Result, SessionLocks, Some, sym, ℕ, ◌∙◌, ◌≡◌}
use Rattle.lock_local.proofs.lock_table.LockTable.acquire.Goals as goal

-- the answer that tells a conflict
abbrev told : Option (ℕ × Mode) → Result (Unit {0}) LockError
told None = Err NotHeld
told (Some found) = Err (Conflict found.0 found.1)

pub returns-in-Some-clause-conflict : goal.returns-in-Some-clause-conflict
returns-in-Some-clause-conflict g c = λ s m.
    let hs = c.args.shared.now in
    let n = c.args.self.now.session in
    let named : n ≡ c.self.inside.session = sym (ap (λ (t : SessionLocks). t.session) c.self.view_is) in
    let found = ap (λ (k : ℕ). least_conflict c.args.object c.args.mode (beside k hs)) named ∙ sym c.in-Some.ensures.beside in (
      λ same. conflict_stands hs c.args.object c.args.mode n s m (cc (same, found, c.in-Some.session-is, c.in-Some.mode-is)),
      λ stands. ap told (sym found ∙ conflict_is hs c.args.object c.args.mode n s m stands),
    )
