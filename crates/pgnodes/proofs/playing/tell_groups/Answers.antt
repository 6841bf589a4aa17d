use Rattle.std.proofs.Common.{◌≡◌, ◌⊎◌, ℕ, List, [], ◌∷◌, ◌++◌, take, Some, Err, IfErr, inl, inr, arith, sym, ap, ◌∙◌, subst}
use Rattle.std.proofs.lemmas.List.{append-nil, append_assoc}
use Rattle.std.proofs.lemmas.Result.{err_from_is_err_and}
use Rattle.std.specs.Prelude.{slice_get}
use Rattle.addr_space.proofs.Steps.{Moves-more}
use Rattle.agg_rules.specs.declared.NodeError.{NodeError}
use Rattle.agg_rules.specs.Rows.{results_of}
use Rattle.agg_pass.proofs.Files.{KeepsFiles-more}
use Rattle.pgnodes.specs.Plays.{idle}
use Rattle.pgnodes.specs.Turns.{Leaves, left_of}
use Rattle.pgnodes.proofs.Passing.{Leaves-more}
use Rattle.pgnodes.proofs.Putting.{from_some, from_none, take-more}
use Rattle.pgnodes.proofs.playing.tell_groups.Goals as goal

pub returns-in_err-group-clause-moves : goal.returns-in_err-group-clause-moves
returns-in_err-group-clause-moves g c = Moves-more _ _ _ _ _ _ c.loop-group.invariant.moves c.next_group.ensures.moves

pub returns-in_err-group-clause-refused : goal.returns-in_err-group-clause-refused
returns-in_err-group-clause-refused g c =
    let e : NodeError = c.in_err-group.field-0.0 in
    let p : c.from_residual.result ≡ Err e = (let q = err_from_is_err_and c.from_residual.result c.from_residual.ensures.1 in cc) in
    let all : List (ℕ × ℕ × ℕ) = results_of c.args.node.now.rows in
    let told : take c.loop-group.node.given all ++ [] ≡ take c.next_group.new.node.given all =
    append-nil (take c.loop-group.node.given all) ∙ ap (λ k. take k all) (sym c.in_err-group.ensures.err_given) in
    subst (λ r. IfErr r (λ x. (x ≡ NodeError.Memory) ⊎ Leaves (left_of c.args.space.now.limit c.args.temp.now.limit c.args.node.now) (take c.next_group.new.node.given all) (record idle { refused = Some x }) c.args.space.now c.next_group.new.space c.args.temp.now c.next_group.new.temp)) (sym p)
    (elim c.in_err-group.ensures.refused [
      | inl memory ↦ inl memory
      | inr leaves ↦
          inr
          (subst (λ (gs : List (ℕ × ℕ × ℕ)). Leaves (left_of c.args.space.now.limit c.args.temp.now.limit c.args.node.now) gs (record idle { refused = Some e }) c.args.space.now c.next_group.new.space c.args.temp.now c.next_group.new.temp) told
          (Leaves-more (left_of c.args.space.now.limit c.args.temp.now.limit c.args.node.now) (left_of c.loop-group.space.limit c.loop-group.temp.limit c.loop-group.node) (record idle { refused = Some e }) (take c.loop-group.node.given all) [] c.args.space.now c.loop-group.space c.next_group.new.space c.args.temp.now c.loop-group.temp c.next_group.new.temp c.loop-group.invariant.leaves leaves))
    ])

pub loop-group-smaller : goal.loop-group-smaller
loop-group-smaller g c =
    let all : List (ℕ × ℕ × ℕ) = results_of c.args.node.now.rows in
    let gave = from_some c.in_ok-group.field-0 (c.in-Some.group, c.in-Some.count, c.in-Some.sum) _ c.in-Some.is c.in_ok-group.ensures.some in
    let there : slice_get all c.loop-group.node.given ≡ Some (c.in-Some.group, c.in-Some.count, c.in-Some.sum) =
    ap (λ rows. slice_get (results_of rows) c.loop-group.node.given) (sym c.loop-group.invariant.rows) ∙ gave.0 in
    omega (arith, gave.1, (take-more all c.loop-group.node.given _ there).1)

pub loop-group-preserved : goal.loop-group-preserved
loop-group-preserved g c =
    let all : List (ℕ × ℕ × ℕ) = results_of c.args.node.now.rows in
    let group : ℕ × ℕ × ℕ = (c.in-Some.group, c.in-Some.count, c.in-Some.sum) in
    let gave = from_some c.in_ok-group.field-0 group _ c.in-Some.is c.in_ok-group.ensures.some in
    let leaves = from_some c.in_ok-group.field-0 group _ c.in-Some.is c.in_ok-group.ensures.gave in
    let there : slice_get all c.loop-group.node.given ≡ Some group =
    ap (λ rows. slice_get (results_of rows) c.loop-group.node.given) (sym c.loop-group.invariant.rows) ∙ gave.0 in
    let more : take c.loop-group.node.given all ++ group ∷ [] ≡ take c.next_group.new.node.given all =
    sym (take-more all c.loop-group.node.given group there).0 ∙ ap (λ k. take k all) (sym gave.1) in
    record {
      stage = c.in_ok-group.ensures.stage;
      rows = c.next_group.ensures.rows ∙ c.loop-group.invariant.rows;
      holds = c.next_group.ensures.holds;
      alone = c.next_group.ensures.alone;
      moves = Moves-more _ _ _ _ _ _ c.loop-group.invariant.moves c.next_group.ensures.moves;
      others = KeepsFiles-more _ _ _ c.args.temp.now c.loop-group.temp c.next_group.new.temp c.loop-group.invariant.others c.next_group.ensures.others;
      limit = c.next_group.ensures.limit ∙ c.loop-group.invariant.limit;
      told =
          c.tell.ensures.told ∙ ap (λ (gs : List (ℕ × ℕ × ℕ)). gs ++ group ∷ []) c.loop-group.invariant.told ∙ append_assoc (g.G.Groups.told c.args.groups.now) (take c.loop-group.node.given all) (group ∷ [])
          ∙ ap (λ (gs : List (ℕ × ℕ × ℕ)). g.G.Groups.told c.args.groups.now ++ gs) more;
      leaves =
          subst (λ (gs : List (ℕ × ℕ × ℕ)). Leaves (left_of c.args.space.now.limit c.args.temp.now.limit c.args.node.now) gs (left_of c.next_group.new.space.limit c.next_group.new.temp.limit c.next_group.new.node) c.args.space.now c.next_group.new.space c.args.temp.now c.next_group.new.temp) more
          (Leaves-more (left_of c.args.space.now.limit c.args.temp.now.limit c.args.node.now) (left_of c.loop-group.space.limit c.loop-group.temp.limit c.loop-group.node) (left_of c.next_group.new.space.limit c.next_group.new.temp.limit c.next_group.new.node) (take c.loop-group.node.given all) (group ∷ []) c.args.space.now c.loop-group.space c.next_group.new.space c.args.temp.now c.loop-group.temp c.next_group.new.temp c.loop-group.invariant.leaves leaves);
    }

pub returns-clause-moves : goal.returns-clause-moves
returns-clause-moves g c = Moves-more _ _ _ _ _ _ c.loop-group.invariant.moves c.next_group.ensures.moves

pub returns-clause-ended : goal.returns-clause-ended
returns-clause-ended g c =
    let all : List (ℕ × ℕ × ℕ) = results_of c.args.node.now.rows in
    let none = from_none c.in_ok-group.field-0 _ c.in_default.is c.in_ok-group.ensures.none in
    let leaves = from_none c.in_ok-group.field-0 _ c.in_default.is c.in_ok-group.ensures.ended in
    let told : take c.loop-group.node.given all ++ [] ≡ take c.next_group.new.node.given all = append-nil (take c.loop-group.node.given all) ∙ ap (λ k. take k all) (sym none.1) in
    subst (λ (gs : List (ℕ × ℕ × ℕ)). Leaves (left_of c.args.space.now.limit c.args.temp.now.limit c.args.node.now) gs idle c.args.space.now c.next_group.new.space c.args.temp.now c.next_group.new.temp) told
    (Leaves-more (left_of c.args.space.now.limit c.args.temp.now.limit c.args.node.now) (left_of c.loop-group.space.limit c.loop-group.temp.limit c.loop-group.node) idle (take c.loop-group.node.given all) [] c.args.space.now c.loop-group.space c.next_group.new.space c.args.temp.now c.loop-group.temp c.next_group.new.temp c.loop-group.invariant.leaves leaves)
