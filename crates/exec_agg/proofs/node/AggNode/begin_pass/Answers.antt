use Rattle.std.proofs.Common.{◌≡◌, ◌⊎◌, ◌≤◌, IfErr, List, length, sym, ap, ◌∙◌, subst, arith}
use Rattle.addr_space.specs.Footprint.{Moves}
use Rattle.addr_space.proofs.Steps.{Moves-more}
use Rattle.agg_rules.specs.declared.Row.{Row}
use Rattle.agg_rules.specs.declared.NodeError.{NodeError}
use Rattle.agg_rules.specs.Passes.{is_outside, kept_groups, spilled_rows}
use Rattle.agg_rules.proofs.Filters.{length-filter_le}
use Rattle.row_files.specs.RowBytes.{HasRows}
use Rattle.held_groups.specs.Held.{footprint}
use Rattle.agg_pass.specs.PassState.{HasSpilled}
use Rattle.exec_agg.specs.Nodes.{Node, Goes, Stops}
use Rattle.exec_agg.proofs.InOrder.{rows_stay}
use Rattle.exec_agg.proofs.Files.{HasSpilled-dropped, KeepsFiles-turned, not_own, rows_file}
use Rattle.exec_agg.proofs.Standing.{goes_over, stops_over, went_over, not_putting, turned, was_ok}
use Rattle.exec_agg.proofs.node.AggNode.begin_pass.Goals as goal

pub go_over-gone_over-requires-clause-rows : goal.go_over-gone_over-requires-clause-rows
go_over-gone_over-requires-clause-rows c =
    let spilled = subst (λ (n : Node). HasSpilled n.pass c.args.temp.now) (sym c.self.view_is) c.requires.holds.spilled in
    subst (HasRows c.args.temp.now c.args.file) (sym c.of-rows.ensures) (spilled c.args.file (ap (λ (n : Node). n.pass.file) c.self.view_is ∙ c.requires.file))

pub go_over-gone_over-requires-clause-few : goal.go_over-gone_over-requires-clause-few
go_over-gone_over-requires-clause-few c =
    let within = c.self.invariant.within (ap (λ (n : Node). n.stage) c.self.view_is ∙ c.requires.giving) in
    omega (arith, within.2, c.self.invariant.few, ap (λ (rows : List Row). length rows) c.of-rows.ensures, length-filter_le (λ (row : Row). is_outside (kept_groups c.self.inside.pass.budget c.self.inside.pass.rows) row.group) c.self.inside.pass.rows)

pub drop_file-requires : goal.drop_file-requires
drop_file-requires c =
    let spilled = subst (λ (n : Node). HasSpilled n.pass c.args.temp.now) (sym c.self.view_is) c.requires.holds.spilled in
    rows_file _ c.args.file _ (rows_stay c.args.temp.now c.go_over-gone_over.new.temp c.restart.new.self.file c.go_over-gone_over.new.pass.file c.args.file _ c.restart.ensures.file c.go_over-gone_over.ensures.others (spilled c.args.file (ap (λ (n : Node). n.pass.file) c.self.view_is ∙ c.requires.file)))

pub invariant_of-self : goal.invariant_of-self
invariant_of-self c =
    turned _ c.self.invariant (ap (λ (n : Node). n.stage) c.self.view_is ∙ c.requires.giving) c.go_over-gone_over.new.pass c.stage_behind-self-inside.result
    (subst (λ (n : Node). length (kept_groups n.pass.budget n.pass.rows) ≤ n.place) (sym c.self.view_is) c.requires.done)
    (c.go_over-gone_over.ensures.budget ∙ c.restart.ensures.budget)
    (not_putting c.go_over-gone_over.result c.stage_behind-self-inside.result c.stage_behind-self-inside.ensures.ok c.stage_behind-self-inside.ensures.err)
    (λ giving. was_ok c.go_over-gone_over.result c.stage_behind-self-inside.result c.stage_behind-self-inside.ensures.err giving c.go_over-gone_over.ensures.rows ∙ c.of-rows.ensures)

pub returns-clause-holds : goal.returns-clause-holds
returns-clause-holds c =
    let spilled = subst (λ (n : Node). HasSpilled n.pass c.args.temp.now) (sym c.self.view_is) c.requires.holds.spilled in
    record {
      agrees = c.go_over-gone_over.ensures.moves.agrees;
      totals = c.go_over-gone_over.ensures.totals;
      spilled =
          HasSpilled-dropped c.args.file _ _ c.drop_file.ensures.changes c.go_over-gone_over.new.pass
          (not_own c.args.temp.now c.go_over-gone_over.new.temp c.restart.new.self.file c.go_over-gone_over.new.pass.file c.args.file _ c.restart.ensures.file c.go_over-gone_over.ensures.others (spilled c.args.file (ap (λ (n : Node). n.pass.file) c.self.view_is ∙ c.requires.file))) c.go_over-gone_over.ensures.spilled;
    }

pub returns-clause-moves : goal.returns-clause-moves
returns-clause-moves c =
    subst (λ (n : Node). Moves (footprint n.pass.groups) (footprint c.go_over-gone_over.new.pass.groups) c.args.space.now c.go_over-gone_over.new.space) c.self.view_is
    (Moves-more _ _ _ _ _ _ c.restart.ensures.moves c.go_over-gone_over.ensures.moves)

pub returns-clause-others : goal.returns-clause-others
returns-clause-others c =
    KeepsFiles-turned c.args.file c.go_over-gone_over.new.temp c.drop_file.new.self c.drop_file.ensures.changes c.args.self.now.pass.file c.restart.new.self.file c.go_over-gone_over.new.pass.file c.args.temp.now c.requires.file
    c.restart.ensures.file c.go_over-gone_over.ensures.others

pub returns-clause-goes : goal.returns-clause-goes
returns-clause-goes c =
    let spilled = subst (λ (n : Node). HasSpilled n.pass c.args.temp.now) (sym c.self.view_is) c.requires.holds.spilled in
    let after : Node = record { rows = c.self.inside.rows.entries; given = c.self.inside.given; stage = c.stage_behind-self-inside.result; pass = c.go_over-gone_over.new.pass; place = 0 } in
    subst (λ (n : Node). Goes n after c.args.space.now c.go_over-gone_over.new.space c.args.temp.now c.drop_file.new.self) c.self.view_is
    (goes_over _ after c.restart.new.self c.args.space.now c.restart.new.space c.go_over-gone_over.new.space c.args.temp.now c.go_over-gone_over.new.temp c.drop_file.new.self c.args.file _ c.of-rows.ensures
    (rows_stay c.args.temp.now c.go_over-gone_over.new.temp c.restart.new.self.file c.go_over-gone_over.new.pass.file c.args.file _ c.restart.ensures.file c.go_over-gone_over.ensures.others (subst (HasRows c.args.temp.now c.args.file) (sym c.of-rows.ensures) (spilled c.args.file (ap (λ (n : Node). n.pass.file) c.self.view_is ∙ c.requires.file))))
    c.drop_file.ensures.changes.limit c.drop_file.ensures.held
    c.restart.ensures.budget (c.restart.ensures.way c.args.temp.now) c.restart.ensures.moves.account c.restart.ensures.asked
    c.go_over-gone_over.ensures.reached c.go_over-gone_over.ensures.went c.go_over-gone_over.ensures.spends c.drop_file.ensures.written)

pub returns-clause-went : goal.returns-clause-went
returns-clause-went c =
    went_over c.go_over-gone_over.result c.args.self.now _ c.args.space.now c.go_over-gone_over.new.space c.args.temp.now c.drop_file.new.self _
    (c.of-rows.ensures ∙ ap (λ (n : Node). spilled_rows n.pass.budget n.pass.rows) c.self.view_is) c.go_over-gone_over.ensures.rows (returns-clause-goes c)

pub returns-clause-refused : goal.returns-clause-refused
returns-clause-refused c =
    let spilled = subst (λ (n : Node). HasSpilled n.pass c.args.temp.now) (sym c.self.view_is) c.requires.holds.spilled in
    let after : Node = record { rows = c.self.inside.rows.entries; given = c.self.inside.given; stage = c.stage_behind-self-inside.result; pass = c.go_over-gone_over.new.pass; place = 0 } in
    let before : Node = record { rows = c.self.inside.rows.entries; given = c.self.inside.given; stage = c.self.inside.stage; pass = c.self.inside.pass; place = c.self.inside.place } in
    subst (λ (n : Node). IfErr c.go_over-gone_over.result (λ e. (e ≡ NodeError.Memory) ⊎ Stops n after c.args.space.now c.go_over-gone_over.new.space c.args.temp.now c.drop_file.new.self e)) c.self.view_is
    (stops_over before after c.restart.new.self c.args.space.now c.restart.new.space c.go_over-gone_over.new.space c.args.temp.now c.go_over-gone_over.new.temp c.drop_file.new.self c.args.file _ c.of-rows.ensures
    (rows_stay c.args.temp.now c.go_over-gone_over.new.temp c.restart.new.self.file c.go_over-gone_over.new.pass.file c.args.file _ c.restart.ensures.file c.go_over-gone_over.ensures.others (subst (HasRows c.args.temp.now c.args.file) (sym c.of-rows.ensures) (spilled c.args.file (ap (λ (n : Node). n.pass.file) c.self.view_is ∙ c.requires.file))))
    c.drop_file.ensures.changes.limit c.drop_file.ensures.held c.go_over-gone_over.result c.restart.ensures.budget (c.restart.ensures.way c.args.temp.now) c.go_over-gone_over.ensures.refused)
