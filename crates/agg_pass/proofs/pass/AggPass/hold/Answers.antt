use Rattle.std.proofs.Common.{◌≡◌, ◌<◌, nat_eq, false, length, sym, ap, ◌∙◌, subst}
use Rattle.std.specs.List.{list_any}
use Rattle.agg_rules.specs.Passes.{kept_groups}
use Rattle.held_groups.specs.Held.{HasTotals}
use Rattle.agg_pass.specs.PassState.{PassState, HasSpilled}
use Rattle.agg_pass.proofs.Going.{groups_of-pass, in-new, IsPass-in, HasSpilled-in, few_held}
use Rattle.agg_pass.proofs.pass.AggPass.hold.Goals as goal

pub hold-requires-clause-totals : goal.hold-requires-clause-totals
hold-requires-clause-totals c = subst (λ (p : PassState). HasTotals p.groups c.args.space.now) (sym c.self.view_is) c.requires.totals

pub hold-requires-clause-fresh : goal.hold-requires-clause-fresh
hold-requires-clause-fresh c =
    ap (list_any (nat_eq c.args.row.group)) (groups_of-pass _ c.self.invariant)
    ∙ subst (λ (p : PassState). list_any (nat_eq c.args.row.group) (kept_groups p.budget p.rows) ≡ false) (sym c.self.view_is) c.requires.fresh

pub hold-requires-clause-few : goal.hold-requires-clause-few
hold-requires-clause-few c = few_held _ c.self.invariant (subst (λ (p : PassState). length p.rows < 100000) (sym c.self.view_is) c.requires.few)

pub invariant_of-self-2 : goal.invariant_of-self-2
invariant_of-self-2 c =
    let p : PassState = record { budget = c.self.inside.budget; rows = c.self.inside.rows.entries; file = c.self.inside.file; groups = c.self.inside.groups } in
    rw c.more_rows-self-inside.ensures (IsPass-in p c.args.row c.hold.new.self c.self.invariant c.in_default.ensures.rows (in-new p.budget p.rows c.args.row (subst (λ (p : PassState). list_any (nat_eq c.args.row.group) (kept_groups p.budget p.rows) ≡ false) (sym c.self.view_is) c.requires.fresh) (subst (λ (p : PassState). length (kept_groups p.budget p.rows) < p.budget) (sym c.self.view_is) c.requires.room)) (subst (λ (p : PassState). length p.rows < 100000) (sym c.self.view_is) c.requires.few))

pub returns-clause-spilled : goal.returns-clause-spilled
returns-clause-spilled c = λ temp has.
    let p : PassState = record { budget = c.self.inside.budget; rows = c.self.inside.rows.entries; file = c.self.inside.file; groups = c.self.inside.groups } in
    rw c.more_rows-self-inside.ensures (HasSpilled-in p c.args.row c.hold.new.self temp (in-new p.budget p.rows c.args.row (subst (λ (p : PassState). list_any (nat_eq c.args.row.group) (kept_groups p.budget p.rows) ≡ false) (sym c.self.view_is) c.requires.fresh) (subst (λ (p : PassState). length (kept_groups p.budget p.rows) < p.budget) (sym c.self.view_is) c.requires.room)) (subst (λ (p : PassState). HasSpilled p temp) (sym c.self.view_is) has))

pub returns-in-Err-clause-totals : goal.returns-in-Err-clause-totals
returns-in-Err-clause-totals c =
    subst (λ g. HasTotals g c.hold.new.space) (sym c.in-Err.ensures.err) (subst (λ s. HasTotals c.self.inside.groups s) (sym c.in-Err.ensures.err_space)
    (subst (λ (p : PassState). HasTotals p.groups c.args.space.now) (sym c.self.view_is) c.requires.totals))

pub returns-in-Err-clause-spilled : goal.returns-in-Err-clause-spilled
returns-in-Err-clause-spilled c = λ temp has. subst (λ (p : PassState). HasSpilled p temp) (sym c.self.view_is) has
