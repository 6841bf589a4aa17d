use Rattle.session_commands.proofs.Base.{true, ap}
use Rattle.session_commands.proofs.Words.{Calls}
use Rattle.session_commands.proofs.Lemmas.{alloc_done, alloc_injected, alloc_refuses, alloc_taken, handed}
use Rattle.session_commands.proofs.chunks.alloc_zeroed.Goals as goal

pub returns-then-is_chunk : goal.returns-then-is_chunk
returns-then-is_chunk g c = record {
  performed =
      alloc_taken c.args.chunk c.args.size true _ _
      c.requires.between.keeps (g.met.E.Emit.emits_none c.args.out.now)
      c.is_chunk.result c.is_chunk.ensures c.if-is_chunk.true;
}

pub returns-in_err-next : goal.returns-in_err-next
returns-in_err-next g c = record {
  performed =
      handed _ _ c.from_residual.ensures.1
      (alloc_injected c.args.chunk c.args.size true _ _
      c.requires.between.keeps (g.met.E.Emit.emits_none c.args.out.now)
      c.is_chunk.result c.is_chunk.ensures c.if-is_chunk.false _ c.next.ensures.counted _ c.in_err-next.ensures.injected.0 c.in_err-next.ensures.injected.1);
}

pub alloc_zeroed-requires-clause-stands : goal.alloc_zeroed-requires-clause-stands
alloc_zeroed-requires-clause-stands g c =
    (c.args.shared.now.shelf.now, (c.args.shared.now.commons.now, c.requires.between.stands))

pub returns-in-Err : goal.returns-in-Err
returns-in-Err g c = record {
  performed =
      alloc_refuses c.args.chunk c.args.size true _ _
      c.requires.between.keeps (g.met.E.Emit.emits_none c.args.out.now)
      c.is_chunk.result c.is_chunk.ensures c.if-is_chunk.false _ c.next.ensures.counted _ _ c.alloc_zeroed.result c.in_ok-next.ensures.goes (c.alloc_zeroed.ensures.alone c.args.shared.now.commons.now)
      c.in-Err.refusal _ _ c.in-Err.is c.alloc_zeroed.ensures.refused (ap (λ (k : Calls). k.count) c.next.ensures.counted) c.call_error.ensures.memory c.call_error.ensures.own
      c.alloc_zeroed.ensures.cause c.alloc_zeroed.ensures.err_space;
}

pub returns : goal.returns
returns g c = record {
  performed =
      alloc_done c.args.chunk c.args.size true _ _
      c.requires.between.keeps (g.met.E.Emit.emits_none c.args.out.now)
      c.is_chunk.result c.is_chunk.ensures c.if-is_chunk.false _ c.next.ensures.counted _ _ c.alloc_zeroed.result c.in_ok-next.ensures.goes (c.alloc_zeroed.ensures.alone c.args.shared.now.commons.now)
      _ c.in_default.is c.alloc_zeroed.ensures.acted c.alloc_zeroed.ensures.served c.alloc_zeroed.ensures.asked;
}
