use Rattle.std.proofs.Common.{arith, ◌∙◌}
use Rattle.std.proofs.lemmas.List.{take_rest}
use Rattle.pgs_io.proofs.KnownLemmas.{append_known-more}
use Rattle.pgs_io.proofs.sinks.put_all.Goals as goal

pub loop-at-preserved : goal.loop-at-preserved
loop-at-preserved g c =
    record {
      in_range = omega (arith, c.in_ok-at.ensures.bound);
      wrote = append_known-more _ _ _ c.args.bytes.now c.loop-at.at c.in_ok-at.field-0 c.loop-at.invariant.wrote (rw take_rest at c.in_ok-at.ensures.bytes);
      no_fault = c.in_ok-at.ensures.no_fault ∙ c.loop-at.invariant.no_fault;
      nothing = λ e. absurd (omega (arith, c.in_ok-at.ensures.some));
    }
