use Rattle.lock_local.proofs.Base.{arith, length, sym, ◌+◌, ◌-◌, ◌/◌, ◌<◌, ◌∙◌}
use Rattle.lock_local.proofs.Lemmas.{later_back, sooner_front}
use Rattle.lock_local.proofs.places.find.Goals as goal

pub loop-low-preserved-then-comes_before : goal.loop-low-preserved-then-comes_before
loop-low-preserved-then-comes_before c =
    let inside : c.loop-low.low + (c.loop-low.high - c.loop-low.low) / 2 < length c.args.locks.now.items = omega (arith, c.loop-low.invariant.within, c.loop-low-test.true) in
    record {
      ordered = omega (arith, c.loop-low-test.true);
      within = c.loop-low.invariant.within;
      front = λ k d l. sooner_front c.args.object c.args.mode c.args.locks.now.items _ c.index.result.now c.requires inside c.index.ensures (sym c.comes_before.ensures ∙ c.if-comes_before.true) k d (omega (arith, l));
      back = c.loop-low.invariant.back;
    }

pub loop-low-preserved : goal.loop-low-preserved
loop-low-preserved c =
    let inside : c.loop-low.low + (c.loop-low.high - c.loop-low.low) / 2 < length c.args.locks.now.items = omega (arith, c.loop-low.invariant.within, c.loop-low-test.true) in
    record {
      ordered = omega arith;
      within = omega (arith, inside);
      front = c.loop-low.invariant.front;
      back = λ k d l w. later_back c.args.object c.args.mode c.args.locks.now.items _ c.index.result.now c.requires inside c.index.ensures (sym c.comes_before.ensures ∙ c.if-comes_before.false) k d l w;
    }
