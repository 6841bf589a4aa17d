use Rattle.session_owners.proofs.Base.{◌≡◌, ◌≤◌, false, List, [], ◌∷◌, ◌++◌, ap, inl, refl, subst, sym, ◌∙◌, arith}
use Rattle.session_owners.proofs.Words.{file_kind, holds_file, ResourceState, owners_of, spare_of, What, Acted, Item, is_among, Files, item_taken, Held}
use Rattle.session_owners.proofs.Lemmas.{counted_opened, full, not_taken, open_held, opened_touches, opening_touches, recent_alone, acted_opened, state_of, balances_same, balances_taken, locks_stay}
use Rattle.owner_core.specs.Owners as owners
use Rattle.session_owners.proofs.resources.Resources.open_file.Goals as goal

pub returns-in-Err-clause-too_many : goal.returns-in-Err-clause-too_many
returns-in-Err-clause-too_many g c = grind (arith, full c.self.inside.tables.files (owners.owners_of c.self.inside.owners) c.args.file c.open_file.result c.laws.ensures.sound, c.self.view_is, c.requires.closed, c.in-Err.is, c.laws.ensures.sound, c.self.invariant.counted, c.open_file.ensures.too_many)

pub returns-in-Err-clause-causes : goal.returns-in-Err-clause-causes
returns-in-Err-clause-causes g c = grind (arith, not_taken c.self.inside.tables.files (owners.owners_of c.self.inside.owners) c.args.file c.open_file.result, c.self.view_is, c.requires.closed, c.in-Err.is, c.self.invariant.counted, c.open_file.ensures.taken, c.open_file.ensures.no_other)

pub invariant_of-self-2 : goal.invariant_of-self-2
invariant_of-self-2 g c =
    counted_opened c.self.inside.owners _ c.self.inside.tables _ c.args.owner.number c.args.file c.self.invariant
    (subst (λ (state : ResourceState). 1 ≤ spare_of c.args.owner.number state) (sym c.self.view_is) c.requires.spare)
    c.in_default.ensures.opened c.in_default.ensures.counts c.remember.ensures.owners c.remember.ensures.next_owner c.remember.ensures.next_serial

pub returns-clause-too_many : goal.returns-clause-too_many
returns-clause-too_many g c = grind (arith, full c.self.inside.tables.files (owners.owners_of c.self.inside.owners) c.args.file c.open_file.result c.laws.ensures.sound, c.self.view_is, c.requires.closed, c.in_default.is, c.laws.ensures.sound, c.self.invariant.counted, c.open_file.ensures.too_many)

pub returns-clause-balances : goal.returns-clause-balances
returns-clause-balances g c =
    λ commons. balances_taken c.self.inside.owners c.self.inside.tables _ _ commons c.args.owner.number (record { kind = file_kind; key = c.args.file; serial = c.self.inside.owners.next_serial }) c.self.invariant
    (subst (λ (t : ResourceState). 1 ≤ spare_of c.args.owner.number t) (sym c.self.view_is) c.requires.spare)
    (sym (ap owners_of c.self.view_is)) (omega arith) (λ e. omega (arith, e)) (λ kinds. record { kind = inl (record { from = omega arith; to = omega arith }); buffer = λ e. absurd (omega (arith, e)) }) c.remember.ensures.owners
    (locks_stay (state_of c.self.inside.owners c.self.inside.tables.files c.self.inside.locks c.self.inside.tables.snapshots.stack c.self.inside.tables.plans) _ _ commons.locks c.self.view_is refl)

pub returns-in-Err-clause-balances : goal.returns-in-Err-clause-balances
returns-in-Err-clause-balances g c =
    λ commons. balances_same _ _ commons (ap owners_of c.self.view_is)
    (locks_stay (state_of c.self.inside.owners c.self.inside.tables.files c.self.inside.locks c.self.inside.tables.snapshots.stack c.self.inside.tables.plans) _ _ commons.locks c.self.view_is refl)

pub returns-clause-acted : goal.returns-clause-acted
returns-clause-acted g c =
    let t = owners.owners_of c.self.inside.owners in
    let files : Files = c.self.inside.tables.files in
    let item : Item = record { kind = file_kind; key = c.args.file; serial = c.self.inside.owners.next_serial } in
    let closed : holds_file c.args.file t ≡ false = ap (λ (state : ResourceState). holds_file c.args.file (owners_of state)) c.self.view_is ∙ c.requires.closed in
    let shut : is_among c.args.file files.opened ≡ false = open_held files t c.args.file (c.self.invariant.counted file_kind c.args.file (omega arith)) ∙ closed in
    let was : ResourceState = state_of c.self.inside.owners c.self.inside.tables.files c.self.inside.locks c.self.inside.tables.snapshots.stack c.self.inside.tables.plans in
    let now : ResourceState = state_of c.remember.new.self c.open_file.new.self.files c.self.inside.locks c.open_file.new.self.snapshots.stack c.open_file.new.self.plans in
    let says : List What → Type 0 = λ (events : List What). g.E.Emit.emits c.args.out.now events c.remember.new.out in
    λ commons. subst (λ (a : ResourceState). Acted (item_taken c.args.owner.number file_kind c.args.file) a now commons commons says) c.self.view_is
    (acted_opened c.args.owner.number c.args.file was now commons says c.remember.ensures.owners c.remember.ensures.next_owner c.remember.ensures.next_serial
    (ap (λ (h : Held). h.files.recent) c.in_default.ensures.opened ∙ opened_touches files c.args.file c.laws.ensures.sound shut ∙ recent_alone files [] c.args.file)
    (ap (λ (h : Held). h.files.descriptors) c.in_default.ensures.opened)
    (record { session = refl; locks = refl; stack = ap (λ (h : Held). h.snapshots.stack) c.in_default.ensures.opened; plans = ap (λ (h : Held). h.plans) c.in_default.ensures.opened })
    (g.met.E.Emit.emits_more _ _ _ _ _ _ c.in_default.ensures.events c.remember.ensures.emits (ap (λ (events : List What). events ++ (What.Acquire item c.args.owner.number ∷ [])) (opening_touches files c.args.file c.laws.ensures.sound shut))))
