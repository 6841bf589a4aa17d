-- The laws of what a session does to its locks: nothing, and some steps behind others.
use Rattle.std.specs.Prelude.{ℕ, List}
use Rattle.std.proofs.Common.{refl, ◌∙◌, subst}
use Rattle.lock_local.specs.Locks.{SessionLocks, OthersStay}
use Rattle.lock_shared.specs.declared.shared_locks.Holding.{Holding}
use Rattle.session_owners.specs.Commons.{LocksBalance}

-- nothing is done to locks, and one thing behind another
pub LocksBalance-nothing : (a : SessionLocks) (c : List Holding) → LocksBalance a a c c
LocksBalance-nothing a c = record { session = refl; agrees = λ h. h; in_order = λ h. h; others = λ o m s other. refl }

pub LocksBalance-more : (a b e : SessionLocks) (c d f : List Holding) → LocksBalance a b c d → LocksBalance b e d f → LocksBalance a e c f
LocksBalance-more a b e c d f p q = record {
  session = q.session ∙ p.session;
  agrees = λ h. q.agrees (p.agrees h);
  in_order = λ h. q.in_order (p.in_order h);
  others = λ o m s other. subst (λ (n : ℕ). OthersStay n d f) p.session q.others o m s other ∙ p.others o m s other;
}
