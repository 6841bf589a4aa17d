use Rattle.session_owners.proofs.Base.{◌≡◌, ◌++◌, subst, nat_cmp, eq_by_cmp, distinct_count}
use Rattle.session_owners.proofs.Words.{Tallies, snapshots_of, Held}
use Rattle.session_owners.proofs.tables.Tables.different_snapshots.Goals as goal

pub returns : goal.returns
returns c = λ taken.
    subst (λ (h : Held). Tallies nat_cmp taken h.snapshots.registered → c.distinct.result ≡ distinct_count (eq_by_cmp nat_cmp) (taken ++ snapshots_of h.snapshots.stack)) c.self.view_is (c.distinct.ensures taken)
