use Rattle.std.proofs.Common.{ℕ, List, length, slice_get, sym, ap, ◌∙◌, subst, arith}
use Rattle.agg_rules.specs.Passes.{kept_groups, pass_results}
use Rattle.agg_pass.specs.PassState.{PassState}
use Rattle.agg_pass.proofs.HeldRows.{results_of-held}
use Rattle.agg_pass.proofs.Going.{groups_of-pass}
use Rattle.held_groups.specs.Held.{HasTotals}
use Rattle.agg_rules.specs.Rows.{results_of}
use Rattle.agg_pass.proofs.pass.AggPass.result_at.Goals as goal

pub result_at-requires-clause-totals : goal.result_at-requires-clause-totals
result_at-requires-clause-totals c = subst (λ (p : PassState). HasTotals p.groups c.args.space.now) (sym c.self.view_is) c.requires.totals

pub result_at-requires-clause-place : goal.result_at-requires-clause-place
result_at-requires-clause-place c =
    omega (arith, c.requires.place, ap (λ (gs : List ℕ). length gs) (groups_of-pass _ c.self.invariant), ap (λ (p : PassState). length (kept_groups p.budget p.rows)) c.self.view_is)

pub returns : goal.returns
returns c =
    ap (λ (p : PassState). slice_get (pass_results p.budget p.rows) c.args.place) (sym c.self.view_is)
    ∙ ap (λ rs. slice_get rs c.args.place) (sym (results_of-held c.self.inside.budget c.self.inside.rows.entries) ∙ ap results_of (sym c.self.invariant.joined)) ∙ c.result_at.ensures
