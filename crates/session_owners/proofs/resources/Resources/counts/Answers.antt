use Rattle.session_owners.proofs.Base.{◌≡◌, ℕ, ◌++◌, List, length, sym, ap, ◌∙◌, arith, length-map}
use Rattle.session_owners.proofs.Words.{size, Active, snapshots_of, all_items, distinct, keys_of, buffer_pin, file_kind, OwnerTree, ResourceState, owners_of, plan_state}
use Rattle.session_owners.proofs.Lemmas.{open_length, class_counted, classes_different, counts_are, different_keys, different_pins, keys_tally, pairs_count, pairs_different, pairs_held}
use Rattle.owner_core.specs.Owners as owners
use Rattle.session_owners.proofs.resources.Resources.counts.Goals as goal

pub returns : goal.returns
returns c = λ commons scene fit contexts.
    let t : OwnerTree = owners.owners_of c.self.inside.owners in
    let same : t ≡ scene.session.owners = ap owners_of c.self.view_is ∙ sym fit.owners in
    let stack : c.self.inside.tables.snapshots.stack ≡ scene.session.snapshots = ap (λ (r : ResourceState). r.stack) c.self.view_is ∙ sym fit.snapshots in
    let taken : List ℕ = keys_of (record { 0 = 7 }) (all_items t) in
    counts_are _ _ _ _ _ _ _ _ _ scene.session
    (c.pinned_buffers.ensures ∙ different_pins buffer_pin c.self.inside.tables.pins t (λ key. c.self.invariant.counted buffer_pin key (omega arith)) ∙ ap (λ (o : OwnerTree). length (distinct (keys_of buffer_pin (all_items o)))) same)
    (c.file_counts-files.ensures.opened ∙ open_length c.self.inside.tables.files t c.file_counts-files.ensures.sound (λ key. c.self.invariant.counted file_kind key (omega arith)) ∙ ap (λ (o : OwnerTree). length (distinct (keys_of file_kind (all_items o)))) same)
    (c.file_counts-files.ensures.recent ∙ ap (λ (r : ResourceState). length r.recent) c.self.view_is ∙ ap length (sym fit.recent))
    (c.distinct.ensures.count ∙ ap (λ (r : ResourceState). length r.locks) c.self.view_is ∙ ap length (sym fit.locks))
    (c.different_snapshots.ensures taken (keys_tally (record { 0 = 7 }) t c.self.inside.tables.snapshots.registered (λ key. c.self.invariant.counted (record { 0 = 7 }) key (omega arith))) ∙ different_keys (taken ++ snapshots_of c.self.inside.tables.snapshots.stack)
    ∙ ap (λ (o : OwnerTree). length (distinct (keys_of (record { 0 = 7 }) (all_items o) ++ snapshots_of c.self.inside.tables.snapshots.stack))) same
    ∙ ap (λ (xs : List Active). length (distinct (keys_of (record { 0 = 7 }) (all_items scene.session.owners) ++ snapshots_of xs))) stack)
    (c.standing_plans.ensures ∙ ap (λ (r : ResourceState). length r.plans.standing) c.self.view_is ∙ sym (ap length fit.plans ∙ length-map _ plan_state))
    (c.referenced.ensures (pairs_held t) (λ class key. pairs_count t class key ∙ class_counted c.self.inside.owners c.self.inside.tables class key c.self.invariant) ∙ pairs_different t
    ∙ ap classes_different same)
    (c.count.ensures.count ∙ ap size same)
    (sym contexts)
