use Rattle.std.proofs.Common.{◌+◌, ◌-◌, refl, arith}
use Rattle.pgs_io.proofs.PieceLemmas.{All-piece}
use Rattle.pgs_io.proofs.finding.free_pieces.Goals as goal

pub loop-at-preserved : goal.loop-at-preserved
loop-at-preserved c =
    let at = c.loop-at.at in
    let others = All-piece c.args.bytes.now at (at + 8 - at) 8 c.args.byte (omega arith) c.loop-at.invariant.others (c.if-is_free.ensures.0 refl) in
    record {
      bound = omega arith;
      others = others;
    }
