use Rattle.std.proofs.Common.{◌≡◌, ◌<◌, ◌≤◌, nat_eq, false, length, sym, subst}
use Rattle.std.specs.List.{list_any}
use Rattle.agg_rules.specs.Passes.{kept_groups, spilled_rows}
use Rattle.agg_pass.specs.PassState.{PassState, HasSpilled}
use Rattle.agg_pass.specs.Spilled.{IsOf, KeepsFiles}
use Rattle.agg_pass.proofs.Going.{in-over, IsPass-over, HasSpilled-over, Spilled-pass, IsPass-file}
use Rattle.agg_pass.proofs.pass.AggPass.spill.Goals as goal

pub spill_row-requires : goal.spill_row-requires
spill_row-requires c =
    let p : PassState = record { budget = c.self.inside.budget; rows = c.self.inside.rows.entries; file = c.self.inside.file; groups = c.self.inside.groups } in
    (spilled_rows p.budget p.rows, Spilled-pass p c.args.temp.now c.self.invariant (subst (λ (p : PassState). HasSpilled p c.args.temp.now) (sym c.self.view_is) c.requires.spilled))

pub invariant_of-self : goal.invariant_of-self
invariant_of-self c =
    let p : PassState = record { budget = c.self.inside.budget; rows = c.self.inside.rows.entries; file = c.self.inside.file; groups = c.self.inside.groups } in
    IsPass-file p c.spill_row.new.file c.spill_row.new.temp c.self.invariant (c.in-Err.ensures.same (spilled_rows p.budget p.rows) (Spilled-pass p c.args.temp.now c.self.invariant (subst (λ (p : PassState). HasSpilled p c.args.temp.now) (sym c.self.view_is) c.requires.spilled)))

pub returns-in-Err-clause-spilled : goal.returns-in-Err-clause-spilled
returns-in-Err-clause-spilled c =
    let p : PassState = record { budget = c.self.inside.budget; rows = c.self.inside.rows.entries; file = c.self.inside.file; groups = c.self.inside.groups } in
    (c.in-Err.ensures.same (spilled_rows p.budget p.rows) (Spilled-pass p c.args.temp.now c.self.invariant (subst (λ (p : PassState). HasSpilled p c.args.temp.now) (sym c.self.view_is) c.requires.spilled))).rows_in_file

pub invariant_of-self-2 : goal.invariant_of-self-2
invariant_of-self-2 c =
    let p : PassState = record { budget = c.self.inside.budget; rows = c.self.inside.rows.entries; file = c.self.inside.file; groups = c.self.inside.groups } in
    rw c.more_rows-self-inside.ensures (IsPass-over p c.args.row c.spill_row.new.file c.spill_row.new.temp c.self.invariant (c.in_default.ensures.rows (spilled_rows p.budget p.rows) (Spilled-pass p c.args.temp.now c.self.invariant (subst (λ (p : PassState). HasSpilled p c.args.temp.now) (sym c.self.view_is) c.requires.spilled))) (in-over p.budget p.rows c.args.row (subst (λ (p : PassState). list_any (nat_eq c.args.row.group) (kept_groups p.budget p.rows) ≡ false) (sym c.self.view_is) c.requires.fresh) (subst (λ (p : PassState). p.budget ≤ length (kept_groups p.budget p.rows)) (sym c.self.view_is) c.requires.full)) (subst (λ (p : PassState). length p.rows < 100000) (sym c.self.view_is) c.requires.few))

pub returns-clause-spilled : goal.returns-clause-spilled
returns-clause-spilled c =
    let p : PassState = record { budget = c.self.inside.budget; rows = c.self.inside.rows.entries; file = c.self.inside.file; groups = c.self.inside.groups } in
    rw c.more_rows-self-inside.ensures (HasSpilled-over p c.args.row c.spill_row.new.file c.spill_row.new.temp (c.in_default.ensures.rows (spilled_rows p.budget p.rows) (Spilled-pass p c.args.temp.now c.self.invariant (subst (λ (p : PassState). HasSpilled p c.args.temp.now) (sym c.self.view_is) c.requires.spilled))) (in-over p.budget p.rows c.args.row (subst (λ (p : PassState). list_any (nat_eq c.args.row.group) (kept_groups p.budget p.rows) ≡ false) (sym c.self.view_is) c.requires.fresh) (subst (λ (p : PassState). p.budget ≤ length (kept_groups p.budget p.rows)) (sym c.self.view_is) c.requires.full)))

pub returns-in-Err-clause-others : goal.returns-in-Err-clause-others
returns-in-Err-clause-others c =
    subst (λ (p : PassState). KeepsFiles (IsOf p.file) c.args.temp.now (IsOf c.spill_row.new.file) c.spill_row.new.temp) c.self.view_is c.spill_row.ensures.others

pub returns-clause-others : goal.returns-clause-others
returns-clause-others c =
    subst (λ (p : PassState). KeepsFiles (IsOf p.file) c.args.temp.now (IsOf c.spill_row.new.file) c.spill_row.new.temp) c.self.view_is c.spill_row.ensures.others
