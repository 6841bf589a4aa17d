use Rattle.alloc_set.proofs.Base.{ap, arith, both_err, either_way, footprint, if_ok, KeepsBut-same, Moves-same, on_err, on_ok, state_of, ◌∙◌}
use Rattle.alloc_set.proofs.Lemmas.{move_whole}
use Rattle.alloc_set.proofs.AllocSet.realloc.Goals as goal

pub returns-clause-moves : goal.returns-clause-moves
returns-clause-moves c = grind (arith, either_way, on_ok, both_err, Moves-same, on_err, c.deref_mut.ensures.value, c.self.view_is, c.realloc.ensures.ok, c.requires.agrees, c.realloc.ensures.err_state, c.realloc.ensures.err_space)

pub returns-clause-keeps : goal.returns-clause-keeps
returns-clause-keeps c =
    let f = footprint (state_of c.deref_mut.result.now) in
    let g = footprint (state_of c.realloc.new.self) in
    rw (← (ap state_of c.deref_mut.ensures.value ∙ c.self.view_is))
    (either_way c.realloc.result (on_ok c.realloc.result (λ to had. had.2.keeps) c.realloc.ensures.ok) (on_err c.realloc.result (KeepsBut-same c.args.at f g c.args.space.now c.realloc.new.space) c.realloc.ensures.err_space))

pub returns-clause-aligned : goal.returns-clause-aligned
returns-clause-aligned c =
    let b = c.realloc.new.self in
    if_ok c.realloc.result (λ to had. move_whole (state_of b) b.active.region b.active.size had.2.kept.settled (state_of c.deref_mut.result.now) c.args.at to c.args.size had.2.live) c.realloc.ensures.ok
