use Rattle.session_commands.proofs.Lemmas.{show_performed, show_refused}
use Rattle.session_commands.proofs.chunks.show.Goals as goal

pub returns-in-Err : goal.returns-in-Err
returns-in-Err g c = record {
  performed =
      show_refused c.args.chunk c.args.at c.args.length _ _ c.bytes_of.result
      c.requires.between.keeps c.bytes_of.ensures.answer
      c.in-Err.refusal _ c.in-Err.is c.tree_error.ensures (g.met.E.Emit.emits_none c.args.out.now);
}

pub returns : goal.returns
returns g c = record {
  performed =
      show_performed c.args.chunk c.args.at c.args.length _ _ c.bytes_of.result
      c.requires.between.keeps c.bytes_of.ensures.answer
      _ c.in-Ok.is c.bytes_of.ensures.bytes c.emit.ensures.emitted;
}
