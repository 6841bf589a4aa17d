use Rattle.session_owners.proofs.Base.{◌≡◌, ℕ, subst, if◌then◌else◌, count_by, is_at, eq_by_cmp, distinct_count}
use Rattle.session_owners.proofs.Words.{pair_cmp, Held, is_class, times_held}
use Rattle.session_owners.proofs.Lemmas.{classes_tally}
use Rattle.session_owners.proofs.tables.Tables.referenced.Goals as goal

pub returns : goal.returns
returns c = λ pairs.
    let inside : Held = record { pins = c.self.inside.pins.items; references = c.self.inside.references; files = c.self.inside.files; snapshots = c.self.inside.snapshots; plans = c.self.inside.plans } in
    subst (λ (h : Held). ((class key : ℕ) → count_by (is_at (pair_cmp (class, key))) pairs ≡ (if is_class class then times_held h (record { 0 = class }) key else 0)) → c.distinct.result ≡ distinct_count (eq_by_cmp pair_cmp) pairs) c.self.view_is
    (λ counted. c.distinct.ensures.different pairs (classes_tally inside pairs c.self.invariant.1 counted))
