use Rattle.alloc_set.proofs.Base.{ap, arith, both_err, either_way, footprint, if_ok, Keeps-same, Moves-same, on_err, on_ok, state_of, ◌∙◌}
use Rattle.alloc_set.proofs.Lemmas.{put_whole}
use Rattle.alloc_set.proofs.AllocSet.alloc.Goals as goal

pub returns-clause-moves : goal.returns-clause-moves
returns-clause-moves c = grind (arith, either_way, on_ok, both_err, Moves-same, on_err, c.deref_mut.ensures.value, c.self.view_is, c.alloc.ensures.ok, c.requires, c.alloc.ensures.err_state, c.alloc.ensures.err_space)

pub returns-clause-keeps : goal.returns-clause-keeps
returns-clause-keeps c =
    let f = footprint (state_of c.deref_mut.result.now) in
    let g = footprint (state_of c.alloc.new.self) in
    rw (← (ap state_of c.deref_mut.ensures.value ∙ c.self.view_is))
    (either_way c.alloc.result (on_ok c.alloc.result (λ at had. had.keeps) c.alloc.ensures.ok) (on_err c.alloc.result (Keeps-same f g c.args.space.now c.alloc.new.space) c.alloc.ensures.err_space))

pub returns-clause-aligned : goal.returns-clause-aligned
returns-clause-aligned c =
    let b = c.alloc.new.self in
    if_ok c.alloc.result (λ at had. put_whole (state_of b) b.active.region b.active.size had.kept.settled (state_of c.deref_mut.result.now) at c.args.size had.live) c.alloc.ensures.ok
