use Rattle.lock_local.proofs.Base.{distinct_count, is_held, length, List, list_any, Lock, Mode, nat_lt, same_name, whole_of, ℕ, ◌≡◌}
use Rattle.lock_local.proofs.Lemmas.{by_view, held_whole, length_different}
use Rattle.lock_local.proofs.lock_table.LockTable.laws.Goals as goal

pub returns-clause-held : goal.returns-clause-held
returns-clause-held c = by_view (λ (zs : List Lock). (o : ℕ) (m : Mode) → is_held zs o m ≡ nat_lt 0 (whole_of zs o m)) _ _ _ c.self.view_is (λ o m. held_whole c.self.inside.locks.items o m c.self.invariant.fits.0.counted)

pub returns-clause-different : goal.returns-clause-different
returns-clause-different c = by_view (λ (zs : List Lock). (names : List (ℕ × Mode)) → ((o : ℕ) (m : Mode) → list_any (same_name (o, m)) names ≡ is_held zs o m) → length zs ≡ distinct_count same_name names) _ _ _ c.self.view_is (λ names h. length_different c.self.inside.locks.items names c.self.invariant.fits.0 h)
