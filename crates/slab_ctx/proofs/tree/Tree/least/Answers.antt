use Rattle.slab_ctx.proofs.Words.{◌≤◌, None, arith, get_or_read}
use Rattle.slab_ctx.proofs.Lemmas.{first-there}
use Rattle.slab_ctx.proofs.tree.Tree.least.Goals as goal

pub returns-clause-there : goal.returns-clause-there
returns-clause-there c =
    let t = c.args.self.now in
    let some : 1 ≤ t.places = omega (arith, c.if-self-eq0.false) in
    rw (get_or_read t.nodes.items 1 c.index.result.now (omega (arith, c.requires.tree.long, some)) c.index.ensures None) (first-there t c.requires.tree some)
