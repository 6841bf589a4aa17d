use Rattle.std.proofs.Common.{◌++◌, [], ◌∷◌, ◌∙◌, sym, subst}
use Rattle.any_ctx.specs.Contexts.{footprint}
use Rattle.core_bench.specs.Held.{AreLive}
use Rattle.core_bench.proofs.Held.{ok_if, held-more}
use Rattle.core_bench.proofs.chunks.Plan.take_one.Goals as goal

pub returns-clause-held : goal.returns-clause-held
returns-clause-held c =
    let items = c.push.ensures.items ∙ ok_if c.push.result (c.args.chunks.now.items ++ c.in_ok-at.at ∷ []) c.args.chunks.now.items (sym c.if-is_err.ensures.value) in
    subst (AreLive (footprint c.alloc.new.self) c.args.self.size) (sym items)
    (held-more (footprint c.args.context.now) (footprint c.alloc.new.self) c.args.self.size c.args.chunks.now.items c.in_ok-at.at c.requires.held c.in_ok-at.ensures.fresh c.in_ok-at.ensures.live)
