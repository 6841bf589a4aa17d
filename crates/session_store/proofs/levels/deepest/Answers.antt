use Rattle.session_store.proofs.Words.{sym}
use Rattle.session_store.proofs.Depths.{deepest_is}
use Rattle.session_store.proofs.levels.deepest.Goals as goal

pub returns : goal.returns
returns c = deepest_is c.args.levels.now c.depth.result c.in-Some.level.now c.requires c.depth.ensures.depth (sym c.in-Some.ensures)
