use Rattle.std.proofs.Common.{ap, ◌∙◌}
use Rattle.addr_space.proofs.Options.{if_ok, on_ok, on_err, either_way, both_err}
use Rattle.addr_space.proofs.Steps.{Moves-same, Keeps-same}
use Rattle.bump_ctx.specs.State.{footprint}
use Rattle.bump_ctx.specs.Kept.{state_of}
use Rattle.bump_ctx.specs.declared.books.Books.{Books}
use Rattle.ctx_blocks.proofs.Aligned.{put_whole}
use Rattle.bump_ctx.proofs.BumpCtx.alloc.Goals as goal

pub returns-clause-moves : goal.returns-clause-moves
returns-clause-moves c =
    rw (← (ap state_of c.deref_mut.ensures.value ∙ c.self.view_is)) (either_way c.alloc-taken.result
    (on_ok c.alloc-taken.result (λ at had. had.moves) c.alloc-taken.ensures.ok)
    (both_err c.alloc-taken.result (λ same same_space. Moves-same _ _ _ _ (rw (← (ap state_of c.deref_mut.ensures.value ∙ c.self.view_is)) at c.requires) (ap footprint same) same_space) c.alloc-taken.ensures.err c.alloc-taken.ensures.err_space))

pub returns-clause-keeps : goal.returns-clause-keeps
returns-clause-keeps c =
    rw (← (ap state_of c.deref_mut.ensures.value ∙ c.self.view_is)) (either_way c.alloc-taken.result
    (on_ok c.alloc-taken.result (λ at had. had.keeps) c.alloc-taken.ensures.ok)
    (on_err c.alloc-taken.result (λ same_space. Keeps-same (footprint (state_of c.deref_mut.result.now)) (footprint (state_of c.alloc-taken.new.self)) _ _ same_space) c.alloc-taken.ensures.err_space))

pub returns-clause-aligned : goal.returns-clause-aligned
returns-clause-aligned c =
    let m = c.alloc-taken.new.self.blocks in
    if_ok c.alloc-taken.result (λ at had. put_whole m (rw c.deref.ensures at c.laid.ensures.placed) c.deref_mut.result.now.blocks at c.args.size had.live) c.alloc-taken.ensures.ok
