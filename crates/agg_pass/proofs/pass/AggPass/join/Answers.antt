use Rattle.std.proofs.Common.{◌≡◌, ◌<◌, nat_eq, true, length, sym, ap, ◌∙◌, subst}
use Rattle.std.specs.List.{list_any}
use Rattle.agg_rules.specs.Passes.{kept_groups}
use Rattle.held_groups.specs.Held.{HasTotals}
use Rattle.agg_pass.specs.PassState.{PassState, HasSpilled}
use Rattle.agg_pass.proofs.Going.{groups_of-pass, in-there, IsPass-in, HasSpilled-in, few_held}
use Rattle.agg_pass.proofs.pass.AggPass.join.Goals as goal

pub join-requires-clause-totals : goal.join-requires-clause-totals
join-requires-clause-totals c = subst (λ (p : PassState). HasTotals p.groups c.args.space.now) (sym c.self.view_is) c.requires.totals

pub join-requires-clause-there : goal.join-requires-clause-there
join-requires-clause-there c =
    ap (list_any (nat_eq c.args.row.group)) (groups_of-pass _ c.self.invariant)
    ∙ subst (λ (p : PassState). list_any (nat_eq c.args.row.group) (kept_groups p.budget p.rows) ≡ true) (sym c.self.view_is) c.requires.there

pub join-requires-clause-few : goal.join-requires-clause-few
join-requires-clause-few c = few_held _ c.self.invariant (subst (λ (p : PassState). length p.rows < 100000) (sym c.self.view_is) c.requires.few)

pub invariant_of-self : goal.invariant_of-self
invariant_of-self c =
    let p : PassState = record { budget = c.self.inside.budget; rows = c.self.inside.rows.entries; file = c.self.inside.file; groups = c.self.inside.groups } in
    rw c.more_rows-self-inside.ensures (IsPass-in p c.args.row c.join.new.self c.self.invariant c.join.ensures.rows (in-there p.budget p.rows c.args.row (subst (λ (p : PassState). list_any (nat_eq c.args.row.group) (kept_groups p.budget p.rows) ≡ true) (sym c.self.view_is) c.requires.there)) (subst (λ (p : PassState). length p.rows < 100000) (sym c.self.view_is) c.requires.few))

pub returns-clause-spilled : goal.returns-clause-spilled
returns-clause-spilled c = λ temp has.
    let p : PassState = record { budget = c.self.inside.budget; rows = c.self.inside.rows.entries; file = c.self.inside.file; groups = c.self.inside.groups } in
    rw c.more_rows-self-inside.ensures (HasSpilled-in p c.args.row c.join.new.self temp (in-there p.budget p.rows c.args.row (subst (λ (p : PassState). list_any (nat_eq c.args.row.group) (kept_groups p.budget p.rows) ≡ true) (sym c.self.view_is) c.requires.there)) (subst (λ (p : PassState). HasSpilled p temp) (sym c.self.view_is) has))
