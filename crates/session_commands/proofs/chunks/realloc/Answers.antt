use Rattle.session_commands.proofs.Base.{ap}
use Rattle.session_commands.proofs.Words.{Calls}
use Rattle.session_commands.proofs.Lemmas.{realloc_done, realloc_injected, realloc_refuses, realloc_unknown, handed}
use Rattle.session_commands.proofs.chunks.realloc.Goals as goal

pub returns-then-not-is_chunk : goal.returns-then-not-is_chunk
returns-then-not-is_chunk g c = record {
  performed =
      realloc_unknown c.args.chunk.now c.args.size _ _
      c.requires.between.keeps (g.met.E.Emit.emits_none c.args.out.now)
      c.is_chunk.result c.is_chunk.ensures c.if-not-is_chunk.true;
}

pub returns-in_err-next : goal.returns-in_err-next
returns-in_err-next g c = record {
  performed =
      handed _ _ c.from_residual.ensures.1
      (realloc_injected c.args.chunk.now c.args.size _ _
      c.requires.between.keeps (g.met.E.Emit.emits_none c.args.out.now)
      c.is_chunk.result c.is_chunk.ensures c.if-not-is_chunk.false _ c.next.ensures.counted _ c.in_err-next.ensures.injected.0 c.in_err-next.ensures.injected.1);
}

pub realloc-requires-clause-stands : goal.realloc-requires-clause-stands
realloc-requires-clause-stands g c =
    (c.args.shared.now.shelf.now, (c.args.shared.now.commons.now, c.requires.between.stands))

pub returns-in-Err : goal.returns-in-Err
returns-in-Err g c = record {
  performed =
      realloc_refuses c.args.chunk.now c.args.size _ _
      c.requires.between.keeps (g.met.E.Emit.emits_none c.args.out.now)
      c.is_chunk.result c.is_chunk.ensures c.if-not-is_chunk.false _ c.next.ensures.counted _ _ c.realloc.result c.in_ok-next.ensures.goes (c.realloc.ensures.alone c.args.shared.now.commons.now)
      c.in-Err.refusal _ _ c.in-Err.is c.realloc.ensures.refused (ap (λ (k : Calls). k.count) c.next.ensures.counted) c.call_error.ensures.memory c.call_error.ensures.own
      c.realloc.ensures.cause c.realloc.ensures.err_space;
}

pub returns : goal.returns
returns g c = record {
  performed =
      realloc_done c.args.chunk.now c.args.size _ _
      c.requires.between.keeps (g.met.E.Emit.emits_none c.args.out.now)
      c.is_chunk.result c.is_chunk.ensures c.if-not-is_chunk.false _ c.next.ensures.counted _ _ c.realloc.result c.in_ok-next.ensures.goes (c.realloc.ensures.alone c.args.shared.now.commons.now)
      _ c.in_default.is c.realloc.ensures.acted c.realloc.ensures.served c.realloc.ensures.asked;
}
