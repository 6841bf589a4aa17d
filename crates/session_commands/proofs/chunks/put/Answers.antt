use Rattle.session_commands.proofs.Base.{◌∙◌}
use Rattle.session_commands.proofs.Lemmas.{put_performed, told_errors}
use Rattle.session_commands.proofs.chunks.put.Goals as goal

pub put-requires-clause-stands : goal.put-requires-clause-stands
put-requires-clause-stands g c =
    (c.args.shared.now.shelf.now, (c.args.shared.now.commons.now, c.requires.between.stands))

pub returns : goal.returns
returns g c = record {
  performed =
      told_errors _ _ c.map_err.ensures.cases
      (put_performed c.args.chunk.now _ _ _ _ c.put.result
      c.requires.between.keeps (g.met.E.Emit.emits_none c.args.out.now)
      (c.put.ensures.alone c.args.shared.now.commons.now) c.put.ensures.refused c.put.ensures.asked c.args.at c.args.bytes.now c.as_slice-bytes.result.now (c.as_slice-bytes.ensures.value ∙ c.decoded-written.ensures) c.put.ensures.answer c.put.ensures.acted);
}
