use Rattle.session_commands.proofs.Lemmas.{free_performed, told_errors}
use Rattle.session_commands.proofs.chunks.free.Goals as goal

pub free-requires-clause-stands : goal.free-requires-clause-stands
free-requires-clause-stands g c =
    (c.args.shared.now.shelf.now, (c.args.shared.now.commons.now, c.requires.between.stands))

pub returns : goal.returns
returns g c = record {
  performed =
      told_errors _ _ c.map_err.ensures.cases
      (free_performed c.args.chunk.now _ _ _ _ c.free.result
      c.requires.between.keeps (g.met.E.Emit.emits_none c.args.out.now)
      (c.free.ensures.alone c.args.shared.now.commons.now) c.free.ensures.refused c.free.ensures.asked c.free.ensures.answer c.free.ensures.acted);
}
