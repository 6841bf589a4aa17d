use Rattle.std.proofs.Common.{◌≡◌, ◌<◌, List, [], take, Option, Some, None, inl, inr, arith, sym, ap, ◌∙◌, subst}
use Rattle.addr_space.specs.Footprint.{Moves}
use Rattle.addr_space.proofs.Steps.{Moves-more}
use Rattle.agg_rules.specs.declared.NodeError.{NodeError}
use Rattle.agg_rules.specs.declared.Row.{Row}
use Rattle.agg_rules.specs.Rows.{results_of}
use Rattle.held_groups.specs.Held.{footprint}
use Rattle.agg_pass.specs.Spilled.{IsOf, KeepsFiles}
use Rattle.agg_pass.proofs.Files.{KeepsFiles-more}
use Rattle.exec_agg.specs.declared.stage.Stage.TheVariants.{Giving}
use Rattle.exec_agg.specs.Nodes.{Node}
use Rattle.pgnodes.specs.Rows.{rows_made}
use Rattle.pgnodes.specs.Plays.{rows_played}
use Rattle.pgnodes.specs.Turns.{Alone, Leaves, left_of}
use Rattle.pgnodes.proofs.Beginning.{Comes-told, err_with, ok_with, put_all, same_left}
use Rattle.pgnodes.proofs.Alone.{Alone-moved}
use Rattle.pgnodes.proofs.playing.put_and_tell.Goals as goal

pub tell_groups-requires-clause-holds : goal.tell_groups-requires-clause-holds
tell_groups-requires-clause-holds g c = c.finish.ensures.holds c.put_rows.new.space c.put_rows.new.temp c.put_rows.ensures.holds

pub tell_groups-requires-clause-alone : goal.tell_groups-requires-clause-alone
tell_groups-requires-clause-alone g c =
    subst (λ (n : Node). Alone n c.put_rows.new.space c.put_rows.new.temp) (sym c.finish.ensures.giving)
    (Alone-moved c.args.node.now (record c.put_rows.new.node { stage = Giving }) c.args.space.now c.put_rows.new.space c.args.temp.now c.put_rows.new.temp c.requires.alone c.put_rows.ensures.moves c.put_rows.ensures.others)

pub returns-clause-moves : goal.returns-clause-moves
returns-clause-moves g c =
    Moves-more _ _ _ _ _ _ c.put_rows.ensures.moves
    (subst (λ (n : Node). Moves (footprint n.pass.groups) (footprint c.tell_groups.new.node.pass.groups) c.put_rows.new.space c.tell_groups.new.space) c.finish.ensures.giving c.tell_groups.ensures.moves)

pub returns-clause-others : goal.returns-clause-others
returns-clause-others g c =
    KeepsFiles-more _ _ _ c.args.temp.now c.put_rows.new.temp c.tell_groups.new.temp c.put_rows.ensures.others
    (subst (λ (n : Node). KeepsFiles (IsOf n.pass.file) c.put_rows.new.temp (IsOf c.tell_groups.new.node.pass.file) c.tell_groups.new.temp) c.finish.ensures.giving c.tell_groups.ensures.others)

pub returns-clause-ended : goal.returns-clause-ended
returns-clause-ended g c =
    let rows : List Row = rows_made c.args.aggregate.now in
    let some : 0 < c.args.aggregate.now.budget = omega (arith, c.requires.in_range.some_budget) in
    let puts : Leaves (rows_played c.args.aggregate.now.budget c.args.space.now.limit c.args.temp.now.limit rows) [] (left_of c.args.space.now.limit c.args.temp.now.limit c.put_rows.new.node) c.args.space.now c.put_rows.new.space c.args.temp.now c.put_rows.new.temp =
    put_all c.args.aggregate.now.budget some c.args.node.now c.put_rows.new.node c.args.space.now c.put_rows.new.space c.args.temp.now c.put_rows.new.temp rows c.requires.alone.account c.requires.begun c.requires.budget c.put_rows.ensures.spends
    c.in_ok-put_rows.ensures.went (c.put_rows.ensures.met ∙ c.in_ok-put_rows.ensures.rows) (c.put_rows.ensures.budget ∙ c.requires.budget) (c.put_rows.ensures.place ∙ c.requires.place) in
    let same : left_of c.put_rows.new.space.limit c.put_rows.new.temp.limit c.finish.new.self ≡ left_of c.args.space.now.limit c.args.temp.now.limit c.put_rows.new.node =
    same_left c.put_rows.new.node c.finish.new.self c.args.space.now c.put_rows.new.space c.args.temp.now c.put_rows.new.temp (ap (λ (n : Node). n.pass) c.finish.ensures.giving) (ap (λ (n : Node). n.place) c.finish.ensures.giving) c.put_rows.ensures.moves.limit c.put_rows.ensures.limit in
    let comes = λ (refused : Option NodeError).
    Comes-told (rows_played c.args.aggregate.now.budget c.args.space.now.limit c.args.temp.now.limit rows) (left_of c.args.space.now.limit c.args.temp.now.limit c.put_rows.new.node) (left_of c.put_rows.new.space.limit c.put_rows.new.temp.limit c.finish.new.self) refused
    (take c.tell_groups.new.node.given (results_of c.finish.new.self.rows)) (g.G.Groups.told c.args.groups.now) (g.G.Groups.told c.tell_groups.new.groups) c.args.space.now c.put_rows.new.space c.tell_groups.new.space c.args.temp.now c.put_rows.new.temp c.tell_groups.new.temp same puts in
    ok_with c.tell_groups.result (λ leaves. comes None leaves c.tell_groups.ensures.told) c.tell_groups.ensures.ended

pub returns-clause-refused : goal.returns-clause-refused
returns-clause-refused g c =
    let rows : List Row = rows_made c.args.aggregate.now in
    let some : 0 < c.args.aggregate.now.budget = omega (arith, c.requires.in_range.some_budget) in
    let puts : Leaves (rows_played c.args.aggregate.now.budget c.args.space.now.limit c.args.temp.now.limit rows) [] (left_of c.args.space.now.limit c.args.temp.now.limit c.put_rows.new.node) c.args.space.now c.put_rows.new.space c.args.temp.now c.put_rows.new.temp =
    put_all c.args.aggregate.now.budget some c.args.node.now c.put_rows.new.node c.args.space.now c.put_rows.new.space c.args.temp.now c.put_rows.new.temp rows c.requires.alone.account c.requires.begun c.requires.budget c.put_rows.ensures.spends
    c.in_ok-put_rows.ensures.went (c.put_rows.ensures.met ∙ c.in_ok-put_rows.ensures.rows) (c.put_rows.ensures.budget ∙ c.requires.budget) (c.put_rows.ensures.place ∙ c.requires.place) in
    let same : left_of c.put_rows.new.space.limit c.put_rows.new.temp.limit c.finish.new.self ≡ left_of c.args.space.now.limit c.args.temp.now.limit c.put_rows.new.node =
    same_left c.put_rows.new.node c.finish.new.self c.args.space.now c.put_rows.new.space c.args.temp.now c.put_rows.new.temp (ap (λ (n : Node). n.pass) c.finish.ensures.giving) (ap (λ (n : Node). n.place) c.finish.ensures.giving) c.put_rows.ensures.moves.limit c.put_rows.ensures.limit in
    let comes = λ (refused : Option NodeError).
    Comes-told (rows_played c.args.aggregate.now.budget c.args.space.now.limit c.args.temp.now.limit rows) (left_of c.args.space.now.limit c.args.temp.now.limit c.put_rows.new.node) (left_of c.put_rows.new.space.limit c.put_rows.new.temp.limit c.finish.new.self) refused
    (take c.tell_groups.new.node.given (results_of c.finish.new.self.rows)) (g.G.Groups.told c.args.groups.now) (g.G.Groups.told c.tell_groups.new.groups) c.args.space.now c.put_rows.new.space c.tell_groups.new.space c.args.temp.now c.put_rows.new.temp c.tell_groups.new.temp same puts in
    err_with c.tell_groups.result (λ e either. elim either [ inl memory ↦ inl memory | inr leaves ↦ inr (comes (Some e) leaves c.tell_groups.ensures.told) ]) c.tell_groups.ensures.refused
