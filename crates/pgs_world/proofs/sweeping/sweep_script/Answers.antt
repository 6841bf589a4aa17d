use Rattle.pgs_world.proofs.Base.{ℕ, refl, ◌∙◌, sym, subst, arith}
use Rattle.pgs_world.proofs.Words.{HasRisen, lines_of, Outcome, setting_for, outside, Sweeps}
use Rattle.pgs_world.proofs.Lemmas.{all_run, calls_told, few_more, is_run, last_few, last_next, stands_more, stands_none, swept_unwritten, swept_wanted, swept_whole}
use Rattle.pgs_turns.proofs.KeptLemmas.{few_lines_of}
use Rattle.pgs_world.proofs.sweeping.sweep_script.Goals as goal

pub loop-fail-init : goal.loop-fail-init
loop-fail-init g c = record {
  stands = stands_none (setting_for c.args.options.now c.args.shelf.now c.args.kinds.now) (lines_of c.args.script.now) (g.K.Sink.written c.args.out.now) c.args.space.now c.requires.empty;
  last = refl;
  within = omega arith;
  no_fault = refl;
}

-- the ERROR events of all runs have room in their count
pub overflow_add-errors : goal.overflow_add-errors
overflow_add-errors g c =
    omega (
      arith,
      few_more c.loop-fail.fail (setting_for c.args.options.now c.args.shelf.now c.args.kinds.now) (lines_of c.args.script.now) c.loop-fail.errors (g.K.Sink.written c.args.out.now) (g.K.Sink.written c.loop-fail.out) c.loop-fail.shelf c.run_once.new.shelf c.loop-fail.kinds c.run_once.new.kinds c.args.space.now c.loop-fail.space c.run_once.new.space c.in-Some.ran c.loop-fail.invariant.stands
          c.in-Some.ensures.ran (omega (arith, few_lines_of c.args.script.now, c.requires.short)) (omega (arith, c.loop-fail-test.true, c.loop-fail.invariant.last, last_few c.loop-fail.fail (setting_for c.args.options.now c.args.shelf.now c.args.kinds.now) (lines_of c.args.script.now))),
    )

-- the run met a want of memory
pub returns-then-ran : goal.returns-then-ran
returns-then-ran g c left left' faults read =
    subst (λ (o : Outcome). Sweeps (setting_for c.args.options.now c.args.shelf.now c.args.kinds.now) o (outside left faults (g.K.Sink.written c.args.out.now) (g.K.Sink.faults c.args.out.now) c.args.shelf.now c.args.kinds.now)
    (outside left' faults (g.K.Sink.written c.loop-fail.out) (g.K.Sink.faults c.loop-fail.out) c.run_once.new.shelf c.run_once.new.kinds) c.args.space.now c.run_once.new.space) (sym c.ended-then-ran.ensures)
    (swept_wanted (setting_for c.args.options.now c.args.shelf.now c.args.kinds.now) c.args.script.now c.loop-fail.errors (g.K.Sink.written c.args.out.now) (g.K.Sink.written c.loop-fail.out) c.loop-fail.shelf c.loop-fail.kinds c.args.space.now c.loop-fail.space left left' faults (g.K.Sink.faults c.args.out.now) read
    c.loop-fail.fail (is_run c.loop-fail.fail (setting_for c.args.options.now c.args.shelf.now c.args.kinds.now) (lines_of c.args.script.now) (omega (arith, c.loop-fail-test.true, c.loop-fail.invariant.last))) c.loop-fail.invariant.stands c.run_once.new.shelf c.run_once.new.kinds c.run_once.new.space c.in-Some.ran c.in-Some.ensures.ran
    c.if-ran.true (g.K.Sink.faults c.loop-fail.out) c.loop-fail.invariant.no_fault)

-- its line was not written whole
pub returns-then-not-tell : goal.returns-then-not-tell
returns-then-not-tell g c left left' faults read =
    subst (λ (o : Outcome). Sweeps (setting_for c.args.options.now c.args.shelf.now c.args.kinds.now) o (outside left faults (g.K.Sink.written c.args.out.now) (g.K.Sink.faults c.args.out.now) c.args.shelf.now c.args.kinds.now)
    (outside left' faults (g.K.Sink.written c.tell.new.out) (g.K.Sink.faults c.tell.new.out) c.run_once.new.shelf c.run_once.new.kinds) c.args.space.now c.run_once.new.space) (sym c.ended-then-not-tell.ensures)
    (swept_unwritten (setting_for c.args.options.now c.args.shelf.now c.args.kinds.now) c.args.script.now c.loop-fail.errors (g.K.Sink.written c.args.out.now) (g.K.Sink.written c.loop-fail.out) c.loop-fail.shelf c.loop-fail.kinds c.args.space.now c.loop-fail.space left left' faults (g.K.Sink.faults c.args.out.now) read
    c.loop-fail.fail (is_run c.loop-fail.fail (setting_for c.args.options.now c.args.shelf.now c.args.kinds.now) (lines_of c.args.script.now) (omega (arith, c.loop-fail-test.true, c.loop-fail.invariant.last))) c.loop-fail.invariant.stands c.run_once.new.shelf c.run_once.new.kinds c.run_once.new.space c.in-Some.ran c.in-Some.ensures.ran
    c.if-ran.false (g.K.Sink.written c.tell.new.out) (c.tell.ensures.front c.if-not-tell.true) (g.K.Sink.faults c.tell.new.out) (subst (λ (n : ℕ). HasRisen n (g.K.Sink.faults c.tell.new.out)) c.loop-fail.invariant.no_fault (c.tell.ensures.fault c.if-not-tell.true)))

pub loop-fail-preserved : goal.loop-fail-preserved
loop-fail-preserved g c = record {
  stands = stands_more c.loop-fail.fail (setting_for c.args.options.now c.args.shelf.now c.args.kinds.now) (lines_of c.args.script.now) c.loop-fail.errors (g.K.Sink.written c.args.out.now) (g.K.Sink.written c.loop-fail.out) c.loop-fail.shelf c.run_once.new.shelf c.loop-fail.kinds c.run_once.new.kinds c.args.space.now c.loop-fail.space c.run_once.new.space
      c.in-Some.ran c.loop-fail.invariant.stands c.in-Some.ensures.ran
      c.if-ran.false (g.K.Sink.written c.tell.new.out) (c.tell.ensures.written c.if-not-tell.false);
  last = last_next c.loop-fail.fail c.loop-fail.last c.in-Some.ran.calls c.last_call-last.result (setting_for c.args.options.now c.args.shelf.now c.args.kinds.now) (lines_of c.args.script.now) c.loop-fail.invariant.last
      (calls_told c.loop-fail.fail (setting_for c.args.options.now c.args.shelf.now c.args.kinds.now) (lines_of c.args.script.now) c.loop-fail.errors (g.K.Sink.written c.args.out.now) (g.K.Sink.written c.loop-fail.out) c.loop-fail.shelf c.run_once.new.shelf c.loop-fail.kinds c.run_once.new.kinds c.args.space.now c.loop-fail.space c.run_once.new.space
      c.in-Some.ran c.loop-fail.invariant.stands c.in-Some.ensures.ran
      c.if-ran.false)
      c.last_call-last.ensures;
  within = omega (arith, is_run c.loop-fail.fail (setting_for c.args.options.now c.args.shelf.now c.args.kinds.now) (lines_of c.args.script.now) (omega (arith, c.loop-fail-test.true, c.loop-fail.invariant.last)));
  no_fault = c.tell.ensures.no_fault c.if-not-tell.false ∙ c.loop-fail.invariant.no_fault;
}

pub returns : goal.returns
returns g c left left' faults read =
    subst (λ (o : Outcome). Sweeps (setting_for c.args.options.now c.args.shelf.now c.args.kinds.now) o (outside left faults (g.K.Sink.written c.args.out.now) (g.K.Sink.faults c.args.out.now) c.args.shelf.now c.args.kinds.now)
    (outside left' faults (g.K.Sink.written c.loop-fail.out) (g.K.Sink.faults c.loop-fail.out) c.loop-fail.shelf c.loop-fail.kinds) c.args.space.now c.loop-fail.space) (sym c.ended-2.ensures)
    (subst (λ (n : ℕ). Sweeps (setting_for c.args.options.now c.args.shelf.now c.args.kinds.now) (record { status = n; call = 0; errors = c.loop-fail.errors; lines = 0 }) (outside left faults (g.K.Sink.written c.args.out.now) (g.K.Sink.faults c.args.out.now) c.args.shelf.now c.args.kinds.now)
    (outside left' faults (g.K.Sink.written c.loop-fail.out) (g.K.Sink.faults c.loop-fail.out) c.loop-fail.shelf c.loop-fail.kinds) c.args.space.now c.loop-fail.space) (sym c.whole_status.ensures)
    (swept_whole (setting_for c.args.options.now c.args.shelf.now c.args.kinds.now) c.args.script.now c.loop-fail.errors (g.K.Sink.written c.args.out.now) (g.K.Sink.written c.loop-fail.out) c.loop-fail.shelf c.loop-fail.kinds c.args.space.now c.loop-fail.space left left' faults (g.K.Sink.faults c.args.out.now) read
    c.loop-fail.fail (all_run c.loop-fail.fail (setting_for c.args.options.now c.args.shelf.now c.args.kinds.now) (lines_of c.args.script.now) (omega (arith, c.loop-fail-test.false, c.loop-fail.invariant.last)) c.loop-fail.invariant.within) c.loop-fail.invariant.stands (g.K.Sink.faults c.loop-fail.out) c.loop-fail.invariant.no_fault))
